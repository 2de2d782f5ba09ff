-- All edges that are given up are taken out, from the largest down.
use Rattle.std.proofs.Common.{◌≡◌, ℕ, ◌-◌, List, [], ◌∷◌, map, refl, sym, ◌∙◌, subst₂}
use Rattle.std.proofs.lemmas.List.{length-map}
use Rattle.dcel_maps.specs.Cyclic.{from_least}
use Rattle.dcel_maps.specs.Removals.{gives_up_edge, gives_up_face}
use Rattle.dcel_maps.specs.Renumbering.{edge_taken_out, edges_taken_out, half_of, moved, new_number}
use Rattle.dcel_maps.specs.Shapes.{IsMesh, Mesh, Shape, face_count}
use Rattle.dcel_maps.specs.theory.Renumbering.{old_number}
use Rattle.dcel_maps.proofs.renumbering.Edges.{IsLastEdgeOut, edge-renamed}
use Rattle.dcel_maps.proofs.renumbering.Meshes.{edge_out-mesh}
use Rattle.dcel_maps.proofs.renumbering.Moves.{half_of-same, half_of-then}
use Rattle.dcel_maps.proofs.renumbering.Records.{without_edge-loses}
use Rattle.dcel_maps.proofs.shapes.Chains.{renamed-then}
use Rattle.dcel_maps.proofs.shapes.Renames.{IsRenamed}
use Rattle.dcel_maps.proofs.shapes.SameNumbers.{same_numbers}
use Rattle.dcel_maps.proofs.renumbering.OneByOne.{GivenUp, TakesOut, first-given, first-largest, rest-listed}

-- the edges that a mesh has given up
abbrev pub ListsEdges : Shape → List ℕ → Type 0
ListsEdges = GivenUp (λ s. s.edges) gives_up_edge

module _ {V DE UE F : Type 0} where
  -- the first of them is the largest
  pub first-out : (m : Mesh V DE UE F) (d : ℕ) (ds : List ℕ) → IsMesh m → ListsEdges m.shape (d ∷ ds) → IsLastEdgeOut m.shape d
  first-out m d ds mesh lists = record {
    given = first-given (gives_up_edge m.shape.removal) m.shape.edges d ds lists;
    largest = first-largest (gives_up_edge m.shape.removal) m.shape.edges d ds lists;
    below = lists.down.0;
    origins = mesh.sized.origins;
  }

  pub edge_steps : TakesOut {V = V} {DE = DE} {UE = UE} {F = F} edge_taken_out (λ s. s.edges) gives_up_edge gives_up_face
  edge_steps = record {
    loses = λ m d. without_edge-loses m.shape.removal d;
    left = λ m d. refl;
    mesh = λ m d ds mesh lists. edge_out-mesh m d mesh (first-out m d ds mesh lists);
  }

  -- all of them are taken out of as many faces
  pub edges_out-faces : (m : Mesh V DE UE F) (ds : List ℕ) → face_count (edges_taken_out m ds).shape ≡ face_count m.shape
  edges_out-faces m [] = refl
  edges_out-faces m (d ∷ ds) =
      edges_out-faces (edge_taken_out m d) ds
      ∙ length-map m.shape.words (λ w. from_least (map (half_of (moved (m.shape.edges - 1) d)) w))

  -- where each half edge has the number of its edge's new one
  pub edges_out-renamed : (m : Mesh V DE UE F) (ds : List ℕ) → IsMesh m → ListsEdges m.shape ds
      → IsRenamed m.shape (edges_taken_out m ds).shape (half_of (new_number m.shape.edges ds)) (half_of (old_number m.shape.edges ds))
      (λ v. v) (λ v. v) (λ g. g) (λ g. g)
  unfolding new_number old_number
  edges_out-renamed m [] mesh lists =
      subst₂ (λ f f'. IsRenamed m.shape m.shape f f' (λ v. v) (λ v. v) (λ g. g) (λ g. g)) (sym half_of-same) (sym half_of-same)
      (same_numbers m.shape m.shape.removal mesh.sound (λ u. refl) (λ g. refl) (λ v. refl))
  edges_out-renamed m (d ∷ ds) mesh lists =
      let out = first-out m d ds mesh lists in
      let last = m.shape.edges - 1 in
      let then =
      renamed-then m.shape (edge_taken_out m d).shape (edges_taken_out (edge_taken_out m d) ds).shape
      (half_of (moved last d)) (half_of (moved d last)) (λ v. v) (λ v. v) (λ g. g) (λ g. g)
      (half_of (new_number last ds)) (half_of (old_number last ds)) (λ v. v) (λ v. v) (λ g. g) (λ g. g)
      mesh.sound (edge-renamed m.shape d mesh.sound out)
      (edges_out-renamed (edge_taken_out m d) ds (edge_out-mesh m d mesh out) (rest-listed edge_steps m d ds lists)) in
      subst₂ (λ f f'. IsRenamed m.shape (edges_taken_out (edge_taken_out m d) ds).shape f f' (λ v. v) (λ v. v) (λ g. g) (λ g. g))
      (λ i h. half_of-then (moved last d) (new_number last ds) h i)
      (λ i h. half_of-then (old_number last ds) (moved d last) h i)
      then
