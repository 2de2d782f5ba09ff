-- The kinds of elements that handles name.
use Rattle.std.specs.Prelude.{ℕ, ◌*◌}
use Rattle.dcel_maps.specs.Shapes.{Shape, face_count}

pub data ElementKind : Type 0 where
  Vertices : ElementKind
  DirectedEdges : ElementKind
  UndirectedEdges : ElementKind
  Faces : ElementKind

-- how many elements of a kind a mesh has, given-up ones included
abbrev pub number_of_elements : ElementKind → Shape → ℕ
number_of_elements Vertices s = s.vertices
number_of_elements DirectedEdges s = 2 * s.edges
number_of_elements UndirectedEdges s = s.edges
number_of_elements Faces s = face_count s
