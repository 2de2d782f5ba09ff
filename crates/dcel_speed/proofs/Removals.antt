-- What the record of a removal says, from the filled hole to the vertex that is taken out.
use Rattle.std.proofs.Common.{◌≡◌, ℕ, ◌≤◌, List, [], ◌∷◌, length, reverse, ap, refl, ◌∙◌, inr, arith}
use Rattle.std.proofs.lemmas.List.{length-reverse}
use Rattle.dcel_maps.specs.Conditions.{CanSwapRemove}
use Rattle.dcel_maps.specs.Removals.{Removal, IsListed, opened}
use Rattle.dcel_maps.specs.Renumbering.{cleaned, cleaned_up}
use Rattle.dcel_maps.specs.Shapes.{Mesh}
use Rattle.dcel_maps.specs.edits.DefaultData.{AddsEdgesAndFaces}
use Rattle.dcel_maps.specs.edits.Fill.{edges_at, faces_at, hole_filled, loop_filled}
use Rattle.dcel_maps.proofs.removal.Insides.{filled-record}

module _ {V DE UE F : Type 0} where
  -- of a mesh m whose vertex v was given up
  module _ (m n : Mesh V DE UE F) (v : ℕ) (border : List ℕ) (many : 3 ≤ length border) {is_half : DE → Type 0} {is_edge : UE → Type 0} {is_face : F → Type 0} {more_edges more_faces : ℕ} (adds : AddsEdgesAndFaces is_half is_edge is_face more_edges more_faces n (hole_filled m v border)) where
    filled_record : n.shape.removal ≡ opened (edges_at m v) (faces_at m v) v
    filled_record =
        ap (λ (u : Mesh V DE UE F). u.shape.removal) adds.is
        ∙ filled-record m (opened (edges_at m v) (faces_at m v) v) (reverse border) (omega (arith, many, length-reverse border))
        adds.directed_data adds.undirected_data adds.face_data

    pub filled_listed : (edges faces : List ℕ) → edges ≡ edges_at m v → faces ≡ faces_at m v → IsListed n.shape.removal edges faces
    filled_listed edges faces same_edges same_faces = rw (filled_record, same_edges, same_faces) (refl, refl)

    pub cleaned_removable : (p : Mesh V DE UE F) → p ≡ cleaned_up n → CanSwapRemove p.shape v
    cleaned_removable p is =
        inr (ap (λ (u : Mesh V DE UE F). u.shape.removal) is ∙ ap cleaned filled_record)
