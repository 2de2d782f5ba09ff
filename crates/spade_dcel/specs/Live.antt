-- Which elements of a kind are live.
use Rattle.std.specs.Prelude.{ℕ, ◌/◌, Bool, List, filter}
use Rattle.dcel_maps.specs.Kinds.{ElementKind, Vertices, DirectedEdges, UndirectedEdges, Faces}
use Rattle.dcel_maps.specs.Shapes.{Mesh, Shape, edge_is_live, face_is_live, vertex_is_live}

-- the element of this kind with this number is live
abbrev pub element_is_live : ElementKind → Shape → ℕ → Bool
element_is_live Vertices s n = vertex_is_live s n
element_is_live DirectedEdges s n = edge_is_live s (n / 2)
element_is_live UndirectedEdges s n = edge_is_live s n
element_is_live Faces s n = face_is_live s n

module _ {V DE UE F : Type 0} where
  -- those that are live, of elements by number, each with its mesh
  abbrev pub live_ones : ElementKind → List (Mesh V DE UE F × ℕ) → List (Mesh V DE UE F × ℕ)
  live_ones kind elements = filter (λ element. element_is_live kind element.0.shape element.1) elements
