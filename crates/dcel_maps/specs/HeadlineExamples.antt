-- What the headline leaves out.
use Rattle.std.specs.Prelude.{ℕ, [], ◌∷◌, map, None}
use Rattle.dcel_maps.specs.Examples.{inside_triangle, two_triangles}
use Rattle.dcel_maps.specs.Removals.{Closed}
use Rattle.dcel_maps.specs.Shapes.{Mesh, Shape}

-- a torus: one vertex, two edges and one face
abbrev pub torus : Shape
torus = record {
  vertices = 1;
  edges = 2;
  words = (0 ∷ 2 ∷ 1 ∷ 3 ∷ []) ∷ [];
  origins = 0 ∷ 0 ∷ 0 ∷ 0 ∷ [];
  removal = Closed;
}

-- two triangles that have a vertex in common and nothing else
abbrev pub pinched : Shape
pinched = record two_triangles { vertices = 5; origins = 0 ∷ 1 ∷ 1 ∷ 2 ∷ 2 ∷ 0 ∷ 0 ∷ 3 ∷ 3 ∷ 4 ∷ 4 ∷ 0 ∷ [] }

-- a triangle, and a third live face without a half edge
abbrev pub with_idle_face : Shape
with_idle_face = record {
  vertices = 3;
  edges = 3;
  words = (0 ∷ 2 ∷ 4 ∷ []) ∷ (1 ∷ 5 ∷ 3 ∷ []) ∷ [] ∷ [];
  origins = 0 ∷ 1 ∷ 1 ∷ 2 ∷ 2 ∷ 0 ∷ [];
  removal = Closed;
}

-- a mesh whose vertices have lost their anchors
abbrev pub without_anchors : Mesh ℕ ℕ ℕ ℕ
without_anchors = record inside_triangle { vertex_anchors = map (λ anchor. None) inside_triangle.vertex_anchors }
