-- Cleanup takes out what was given up, and leaves a mesh: the one that was, under other numbers.
use Rattle.std.proofs.Common.{◌≡◌, ℕ, false, List, Some, None, refl, sym, ◌∙◌, subst}
use Rattle.dcel_maps.specs.Removals.{Closed, Cleaned, IsInOrder, IsWithin, Isolated, Removal, gives_up_edge, gives_up_face, gives_up_vertex}
use Rattle.dcel_maps.specs.Renumbering.{cleaned, cleaned_up, edges_down, edges_taken_out, faces_down, faces_taken_out, half_of, new_number}
use Rattle.dcel_maps.specs.Shapes.{IsMesh, Mesh, face_anchor, face_count, vertex_anchor}
use Rattle.dcel_maps.specs.theory.Renumbering.{GoesDown, old_number}
use Rattle.dcel_maps.proofs.renumbering.AllEdges.{ListsEdges, edge_steps, edges_out-faces, edges_out-renamed}
use Rattle.dcel_maps.proofs.renumbering.AllFaces.{ListsFaces, face_steps, faces_out-renamed}
use Rattle.dcel_maps.proofs.renumbering.GivenUp.{edges_down-list, faces_down-list}
use Rattle.dcel_maps.proofs.renumbering.Meshes.{anchor-same}
use Rattle.dcel_maps.proofs.shapes.Anchors.{AnchorsFollow, renamed-mesh}
use Rattle.dcel_maps.proofs.shapes.Chains.{renamed-then}
use Rattle.dcel_maps.proofs.shapes.Renames.{IsRenamed}
use Rattle.dcel_maps.proofs.shapes.SameNumbers.{same_numbers}
use Rattle.dcel_maps.proofs.renumbering.OneByOne.{all_out-mesh, all_out-none, all_out-others, all_out-vertices}
use Rattle.dcel_maps.proofs.shapes.Sizes.{sized_from, sized_vertices, sized_edges, sized_faces}

-- a clean record gives up no edge and no face, and the same vertex
cleaned-gives : (r : Removal) (k : ℕ)
    → (gives_up_edge (cleaned r) k ≡ false) × (gives_up_face (cleaned r) k ≡ false) × (gives_up_vertex (cleaned r) k ≡ gives_up_vertex r k)
unfolding gives_up_edge gives_up_face gives_up_vertex
cleaned-gives Closed k = (refl, refl, refl)
cleaned-gives (Isolated edges faces None) k = (refl, refl, refl)
cleaned-gives (Isolated edges faces (Some v)) k = (refl, refl, refl)
cleaned-gives (Cleaned vertex) k = (refl, refl, refl)

cleaned-in_order : (r : Removal) → IsInOrder (cleaned r)
cleaned-in_order Closed = tt
cleaned-in_order (Isolated edges faces None) = tt
cleaned-in_order (Isolated edges faces (Some v)) = tt
cleaned-in_order (Cleaned vertex) = tt

module _ {V DE UE F : Type 0} where
  -- another record that gives up the same leaves a mesh
  module _ (m : Mesh V DE UE F) (r : Removal) (mesh : IsMesh m) (edges : (u : ℕ) → gives_up_edge r u ≡ gives_up_edge m.shape.removal u)
      (faces : (g : ℕ) → gives_up_face r g ≡ gives_up_face m.shape.removal g)
      (vertices : (v : ℕ) → gives_up_vertex r v ≡ gives_up_vertex m.shape.removal v) (in_order : IsInOrder r) where
    same : IsRenamed m.shape (record m.shape { removal = r }) (λ h. h) (λ h. h) (λ v. v) (λ v. v) (λ g. g) (λ g. g)
    same = same_numbers m.shape r mesh.sound edges faces vertices

    follow : AnchorsFollow m (record m { shape = record m.shape { removal = r } }) (λ h. h) (λ v. v) (λ v. v) (λ g. g)
    follow = record {
      vertex = λ v below. sym (anchor-same (vertex_anchor m v));
      vertex_below = λ v below. below;
      vertex_back = λ v below. refl;
      face = λ g below. sym (anchor-same (face_anchor m g));
    }

    within : IsWithin r m.shape.vertices m.shape.edges (face_count m.shape)
    within = record {
      vertices = λ v given. mesh.sized.within.vertices v (sym (vertices v) ∙ given);
      edges = λ u given. mesh.sized.within.edges u (sym (edges u) ∙ given);
      faces = λ g given. mesh.sized.within.faces g (sym (faces g) ∙ given);
      in_order = in_order;
    }

    pub same_record-mesh : IsMesh (record m { shape = record m.shape { removal = r } })
    same_record-mesh =
        let sized = mesh.sized in
        renamed-mesh m (record m { shape = record m.shape { removal = r } }) (λ h. h) (λ h. h) (λ v. v) (λ v. v) (λ g. g) (λ g. g) same follow
        (sized_from (sized_vertices sized) (sized_edges sized) (sized_faces sized) sized.outer within) mesh

  module _ (m : Mesh V DE UE F) (mesh : IsMesh m) where
    abbrev edges : List ℕ
    edges = edges_down m.shape.removal

    abbrev faces : List ℕ
    faces = faces_down m.shape.removal

    -- the mesh without the edges, and without the faces as well
    abbrev halfway : Mesh V DE UE F
    halfway = edges_taken_out m edges

    abbrev emptied : Mesh V DE UE F
    emptied = faces_taken_out (edges_taken_out m edges) faces

    pub edges_listed : ListsEdges m.shape edges
    edges_listed = edges_down-list m.shape.removal mesh.sized.within

    -- once the edges are out, the faces are listed as before
    pub faces_listed : ListsFaces halfway.shape faces
    faces_listed =
        let listed = faces_down-list m.shape.removal mesh.sized.within in
        record {
          down = subst (λ n. GoesDown n faces) (sym (edges_out-faces m edges)) listed.down;
          each = λ g. (
            λ given. (listed.each g).0 (sym (all_out-others edge_steps m edges g) ∙ given),
            λ found. all_out-others edge_steps m edges g ∙ (listed.each g).1 found,
          );
        }

    halfway-mesh : IsMesh halfway
    halfway-mesh = all_out-mesh edge_steps m edges mesh edges_listed

    emptied-mesh : IsMesh emptied
    emptied-mesh = all_out-mesh face_steps halfway faces halfway-mesh faces_listed

    -- neither an edge nor a face is given up any more, and the same vertex is
    pub same_edges : (u : ℕ) → gives_up_edge (cleaned m.shape.removal) u ≡ gives_up_edge emptied.shape.removal u
    same_edges u = (cleaned-gives m.shape.removal u).0 ∙ sym (all_out-others face_steps halfway faces u ∙ all_out-none edge_steps m edges edges_listed u)

    same_faces : (g : ℕ) → gives_up_face (cleaned m.shape.removal) g ≡ gives_up_face emptied.shape.removal g
    same_faces g = (cleaned-gives m.shape.removal g).1 ∙ sym (all_out-none face_steps halfway faces faces_listed g)

    same_vertices : (v : ℕ) → gives_up_vertex (cleaned m.shape.removal) v ≡ gives_up_vertex emptied.shape.removal v
    same_vertices v = (cleaned-gives m.shape.removal v).2 ∙ sym (all_out-vertices face_steps halfway faces v ∙ all_out-vertices edge_steps m edges v)

    -- cleanup leaves a mesh
    pub cleaned_up-mesh : IsMesh (cleaned_up m)
    cleaned_up-mesh = same_record-mesh emptied (cleaned m.shape.removal) emptied-mesh same_edges same_faces same_vertices (cleaned-in_order m.shape.removal)

    -- and each half edge and face that was live has its new number there
    pub cleaned_up-renamed : IsRenamed m.shape (cleaned_up m).shape
        (half_of (new_number m.shape.edges edges)) (half_of (old_number m.shape.edges edges)) (λ v. v) (λ v. v)
        (new_number (face_count m.shape) faces) (old_number (face_count m.shape) faces)
    cleaned_up-renamed =
        let f = half_of (new_number m.shape.edges edges) in
        let f' = half_of (old_number m.shape.edges edges) in
        let w = new_number (face_count m.shape) faces in
        let w' = old_number (face_count m.shape) faces in
        let second : IsRenamed halfway.shape emptied.shape (λ h. h) (λ h. h) (λ v. v) (λ v. v) w w' =
        subst (λ c. IsRenamed halfway.shape emptied.shape (λ h. h) (λ h. h) (λ v. v) (λ v. v) (new_number c faces) (old_number c faces)) (edges_out-faces m edges)
        (faces_out-renamed halfway faces halfway-mesh faces_listed) in
        renamed-then m.shape emptied.shape (cleaned_up m).shape f f' (λ v. v) (λ v. v) w w' (λ h. h) (λ h. h) (λ v. v) (λ v. v) (λ g. g) (λ g. g)
        mesh.sound
        (renamed-then m.shape halfway.shape emptied.shape f f' (λ v. v) (λ v. v) (λ g. g) (λ g. g) (λ h. h) (λ h. h) (λ v. v) (λ v. v) w w'
        mesh.sound (edges_out-renamed m edges mesh edges_listed) second)
        (same_numbers emptied.shape (cleaned m.shape.removal) emptied-mesh.sound same_edges same_faces same_vertices)
