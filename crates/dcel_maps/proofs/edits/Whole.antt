-- The clone of a mesh is the mesh itself where clones of its data are equal to these.
use Rattle.std.proofs.Common.{◌≡◌, refl, ◌∙◌}
use Rattle.std.proofs.lemmas.List.Elements.{same_from_all_zip}
use Rattle.dcel_maps.specs.edits.Whole.{ClonesEqual, IsClone}
use Rattle.dcel_maps.specs.Shapes.{Mesh}

pub clone-same : {V DE UE F : Type 0} {is_vertex : V → V → Type 0} {is_half : DE → DE → Type 0} {is_edge : UE → UE → Type 0} {is_face : F → F → Type 0}
    (m clone : Mesh V DE UE F) → IsClone is_vertex is_half is_edge is_face m clone
    → ClonesEqual is_vertex → ClonesEqual is_half → ClonesEqual is_edge → ClonesEqual is_face → clone ≡ m
clone-same {is_vertex = is_vertex} {is_half = is_half} {is_edge = is_edge} {is_face = is_face} m clone cloned v h e f =
    cloned.same
    ∙ rw (
      same_from_all_zip is_vertex m.vertex_data clone.vertex_data cloned.vertex_data v,
      same_from_all_zip is_half m.directed_data clone.directed_data cloned.directed_data h,
      same_from_all_zip is_edge m.undirected_data clone.undirected_data cloned.undirected_data e,
      same_from_all_zip is_face m.face_data clone.face_data cloned.face_data f,
    ) refl
