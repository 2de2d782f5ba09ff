-- Calls on a whole mesh: what is left of it, and other data. Whatever isn't named stays as it was.
use Rattle.std.specs.Prelude.{◌≡◌, List, take}
use Rattle.std.specs.List.{AllZip}
use Rattle.dcel_maps.specs.edits.Create.{outer_with}
use Rattle.dcel_maps.specs.Shapes.{Mesh}

-- `clear`: the outer face alone, with the datum that it had
abbrev pub cleared : {V DE UE F : Type 0} → Mesh V DE UE F → Mesh V DE UE F
cleared m = outer_with (take 1 m.face_data)

-- the mesh with other data, which may be of other types
abbrev pub with_data : {V DE UE F V' DE' UE' F' : Type 0} → Mesh V DE UE F → List V' → List DE' → List UE' → List F' → Mesh V' DE' UE' F'
with_data m vertices halves edges faces = record {
  shape = m.shape;
  vertex_anchors = m.vertex_anchors;
  face_anchors = m.face_anchors;
  vertex_data = vertices;
  directed_data = halves;
  undirected_data = edges;
  face_data = faces;
}

-- `map_vertices`, `map_undirected_edges`: with other data of the vertices, or of the undirected edges
abbrev pub with_vertex_data : {V DE UE F V' : Type 0} → Mesh V DE UE F → List V' → Mesh V' DE UE F
with_vertex_data m vertices = with_data m vertices m.directed_data m.undirected_data m.face_data

abbrev pub with_undirected_data : {V DE UE F UE' : Type 0} → Mesh V DE UE F → List UE' → Mesh V DE UE' F
with_undirected_data m edges = with_data m m.vertex_data m.directed_data edges m.face_data

-- `try_clone`: the mesh with a clone of each datum
pub record IsClone {V DE UE F : Type 0} (is_vertex : V → V → Type 0) (is_half : DE → DE → Type 0) (is_edge : UE → UE → Type 0) (is_face : F → F → Type 0) (m clone : Mesh V DE UE F) : Type 0 where
  pub vertex_data : AllZip is_vertex m.vertex_data clone.vertex_data
  pub directed_data : AllZip is_half m.directed_data clone.directed_data
  pub undirected_data : AllZip is_edge m.undirected_data clone.undirected_data
  pub face_data : AllZip is_face m.face_data clone.face_data
  pub same : clone ≡ with_data m clone.vertex_data clone.directed_data clone.undirected_data clone.face_data

-- each clone of a datum is equal to it
abbrev pub ClonesEqual : {X : Type 0} → (X → X → Type 0) → Type 0
ClonesEqual {X} is_clone = (x clone : X) → is_clone x clone → clone ≡ x
