-- What a triangulation has, as lists, and how they are put into a buffer.
use Rattle.dcel_delaunay.specs.Lists.{across_of, corners_of, ends_of, hull_vertices, inner_faces}
use Rattle.dcel_delaunay.specs.Triangles.{AreDelaunayTriangles}
use Rattle.dcel_delaunay.specs.Triangulated.{mesh_in}
use Rattle.dcel_delaunay.specs.declared.lists.Across.{Across}
use Rattle.dcel_delaunay.specs.declared.lists.Ends.{Ends}
use Rattle.dcel_delaunay.specs.declared.triangles.triangle.Triangle.{Triangle}
use Rattle.dcel_exports.specs.Answers.{filled}
use Rattle.dcel_maps.specs.Numbers.{numbers_between}
use Rattle.dcel_maps.specs.Shapes.{Shape, face_of, next_of, origin_of, prev_of}
use Rattle.dcel_predicates.specs.declared.point.Point.{Point}
use Rattle.dcel_triangulations.specs.Held.{State}
use Rattle.dcel_triangulations.specs.Statuses.{buffer_status}
use Rattle.dcel_triangulations.specs.declared.buffers.DcelAcross.{DcelAcross}
use Rattle.dcel_triangulations.specs.declared.links.DcelHalfEdge.{DcelHalfEdge}
use Rattle.dcel_triangulations.specs.declared.points.DcelPoint.{DcelPoint}
use Rattle.std.specs.Prelude.{◌≡◌, ◌≢◌, ◌*◌, ◌-◌, ◌^◌, ℕ, List, length, map, unwrap_or}

-- a list stands in the buffer, from the front, before what stays of it; or it doesn't fit, and all of the buffer stays
pub record IsPut {T : Type 0} (list before after : List T) (needed status : ℕ) : Type 0 where
  pub counted : needed ≡ length list
  pub told : status ≡ buffer_status needed (length before)
  pub put : status ≡ 0 → after ≡ filled list before
  pub stays : status ≢ 0 → after ≡ before

-- what stands for a number where there is none
abbrev pub no_number : ℕ
no_number = 2 ^ 32 - 1

abbrev pub point_told : Point → DcelPoint
point_told p = record { x = p.x; y = p.y }

abbrev pub across_told : Across → DcelAcross
across_told a = record { first = unwrap_or a.first no_number; second = unwrap_or a.second no_number; third = unwrap_or a.third no_number }

-- the links of the half edge h
abbrev pub links_of : Shape → ℕ → DcelHalfEdge
links_of s h = record { next = next_of s h; prev = prev_of s h; origin = origin_of s h; face = face_of s h }

-- those of all half edges, by number
abbrev pub links_told : Shape → List DcelHalfEdge
links_told s = map (links_of s) (numbers_between 0 (2 * s.edges))

-- the points of the vertices, by number
abbrev pub points_of : State → List DcelPoint
points_of t = map point_told (mesh_in t).vertex_data

-- the corners of the triangles
abbrev pub triangles_of : State → List Triangle
triangles_of t = map (corners_of (mesh_in t)) (inner_faces (mesh_in t).shape)

-- the triangles across from these corners
abbrev pub neighbors_of : State → List DcelAcross
neighbors_of t = map across_told (map (across_of (mesh_in t)) (inner_faces (mesh_in t).shape))

-- the ends of the edges, by number
abbrev pub edges_of : State → List Ends
edges_of t = map (ends_of (mesh_in t).shape) (numbers_between 0 (mesh_in t).shape.edges)

-- the vertices of the hull
abbrev pub hull_of : State → List ℕ
hull_of t = hull_vertices (mesh_in t)

-- the links of the half edges
abbrev pub half_edges_of : State → List DcelHalfEdge
half_edges_of t = links_told (mesh_in t).shape

-- the triangles are a Delaunay triangulation of the points
abbrev pub ListsDelaunayTriangles : State → Type 0
ListsDelaunayTriangles t = AreDelaunayTriangles (mesh_in t).vertex_data (triangles_of t)
