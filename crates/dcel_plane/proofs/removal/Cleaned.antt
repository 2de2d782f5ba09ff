-- How much is left once a removal is cleaned up.
use Rattle.std.proofs.Common.{◌≡◌, ℕ, suc, ◌-◌, ◌≤◌, List, [], ◌∷◌, length, refl, ap, ◌∙◌, arith}
use Rattle.dcel_maps.specs.Renumbering.{cleaned_up, edge_taken_out, edges_down, edges_taken_out, face_taken_out, faces_down, faces_taken_out}
use Rattle.dcel_maps.specs.Shapes.{IsMesh, Mesh, face_count}
use Rattle.dcel_maps.specs.theory.Renumbering.{GoesDown}
use Rattle.dcel_maps.proofs.renumbering.AllEdges.{edges_out-faces}
use Rattle.dcel_maps.proofs.renumbering.GivenUp.{edges_down-list, faces_down-list}
use Rattle.dcel_maps.proofs.renumbering.LastPut.{length-last_put}

down_short : (n : ℕ) (ds : List ℕ) → GoesDown n ds → length ds ≤ n
down_short n [] down = omega arith
down_short n (d ∷ ds) down =
    let first = down.0 in
    let rest = down_short d ds down.1 in
    omega (arith, first, rest)

module _ {V DE UE F : Type 0} where
  edges_out-edges : (m : Mesh V DE UE F) (ds : List ℕ) → (edges_taken_out m ds).shape.edges ≡ m.shape.edges - length ds
  edges_out-edges m [] = omega arith
  edges_out-edges m (d ∷ ds) = edges_out-edges (edge_taken_out m d) ds ∙ (let e : m.shape.edges - 1 - length ds ≡ m.shape.edges - suc (length ds) = omega arith in e)

  edges_out-vertices : (m : Mesh V DE UE F) (ds : List ℕ) → (edges_taken_out m ds).shape.vertices ≡ m.shape.vertices
  edges_out-vertices m [] = refl
  edges_out-vertices m (d ∷ ds) = edges_out-vertices (edge_taken_out m d) ds

  edges_out-points : (m : Mesh V DE UE F) (ds : List ℕ) → (edges_taken_out m ds).vertex_data ≡ m.vertex_data
  edges_out-points m [] = refl
  edges_out-points m (d ∷ ds) = edges_out-points (edge_taken_out m d) ds

  faces_out-edges : (m : Mesh V DE UE F) (ds : List ℕ) → (faces_taken_out m ds).shape.edges ≡ m.shape.edges
  faces_out-edges m [] = refl
  faces_out-edges m (d ∷ ds) = faces_out-edges (face_taken_out m d) ds

  faces_out-vertices : (m : Mesh V DE UE F) (ds : List ℕ) → (faces_taken_out m ds).shape.vertices ≡ m.shape.vertices
  faces_out-vertices m [] = refl
  faces_out-vertices m (d ∷ ds) = faces_out-vertices (face_taken_out m d) ds

  faces_out-points : (m : Mesh V DE UE F) (ds : List ℕ) → (faces_taken_out m ds).vertex_data ≡ m.vertex_data
  faces_out-points m [] = refl
  faces_out-points m (d ∷ ds) = faces_out-points (face_taken_out m d) ds

  faces_out-faces : (m : Mesh V DE UE F) (ds : List ℕ) → face_count (faces_taken_out m ds).shape ≡ face_count m.shape - length ds
  faces_out-faces m [] = omega arith
  faces_out-faces m (d ∷ ds) =
      faces_out-faces (face_taken_out m d) ds ∙ ap (λ n. n - length ds) (length-last_put 1 m.shape.words d)
      ∙ (let e : face_count m.shape - 1 - length ds ≡ face_count m.shape - suc (length ds) = omega arith in e)

  -- c has what the removal of m leaves
  pub record IsCleaned (m c : Mesh V DE UE F) : Type 0 where
    pub vertices : c.shape.vertices ≡ m.shape.vertices
    pub points : c.vertex_data ≡ m.vertex_data
    pub edges : c.shape.edges ≡ m.shape.edges - length (edges_down m.shape.removal)
    pub faces : face_count c.shape ≡ face_count m.shape - length (faces_down m.shape.removal)
    pub few_edges : length (edges_down m.shape.removal) ≤ m.shape.edges
    pub few_faces : length (faces_down m.shape.removal) ≤ face_count m.shape

  pub cleaned_is : (m : Mesh V DE UE F) → IsMesh m → IsCleaned m (cleaned_up m)
  cleaned_is m mesh =
      let es = edges_down m.shape.removal in
      let fs = faces_down m.shape.removal in
      record {
        vertices = faces_out-vertices (edges_taken_out m es) fs ∙ edges_out-vertices m es;
        points = faces_out-points (edges_taken_out m es) fs ∙ edges_out-points m es;
        edges = faces_out-edges (edges_taken_out m es) fs ∙ edges_out-edges m es;
        faces = faces_out-faces (edges_taken_out m es) fs ∙ ap (λ n. n - length fs) (edges_out-faces m es);
        few_edges = down_short m.shape.edges es (edges_down-list m.shape.removal mesh.sized.within).down;
        few_faces = down_short (face_count m.shape) fs (faces_down-list m.shape.removal mesh.sized.within).down;
      }
