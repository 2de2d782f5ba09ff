-- How many edges and vertices a mesh has.
use Rattle.std.specs.Prelude.{◌≡◌, ℕ, ◌+◌, ◌*◌, ◌<◌, length}
use Rattle.dcel_maps.specs.Maps.{count, starts_edge}
use Rattle.dcel_maps.specs.Shapes.{Mesh, Shape, edge_is_live, face_count, face_is_live, map_of}
use Rattle.dcel_maps.specs.Triangulations.{AllTriangles}
use Rattle.dcel_maps.specs.Walking.{hull_of}

-- how many edges are live, how many vertices have a live edge, and how many faces are live
abbrev pub live_edges : Shape → ℕ
live_edges s = count (edge_is_live s) s.edges

abbrev pub used_vertices : Shape → ℕ
used_vertices s = count (starts_edge (map_of s)) s.vertices

abbrev pub live_faces : Shape → ℕ
live_faces s = count (face_is_live s) (face_count s)

-- with a hull of h half edges the live edges are three times the vertices with an edge, minus three, minus h
abbrev pub IsCounted : Shape → ℕ → Type 0
IsCounted s h = live_edges s + 3 + h ≡ 3 * used_vertices s

-- so it is once an edge stands, where each live inner face is a triangle
abbrev pub Counts : {V DE UE F : Type 0} → Mesh V DE UE F → Type 0
Counts m = AllTriangles m.shape → 0 < length (hull_of m) → IsCounted m.shape (length (hull_of m))
