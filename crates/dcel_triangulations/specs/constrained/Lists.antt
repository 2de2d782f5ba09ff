-- What a constrained triangulation has, as lists.
use Rattle.dcel_constrained.specs.Constrained.{marked_mesh}
use Rattle.dcel_constrained.specs.Sight.{CirclesInSightAreEmpty, hides}
use Rattle.dcel_constrained.specs.Soundness.{IsConstrainedDelaunay}
use Rattle.dcel_delaunay.specs.Lists.{across_of, corners_of, ends_of, hull_vertices, inner_faces}
use Rattle.dcel_delaunay.specs.Triangulated.{FacesAreApart, GoesRoundHull, HullIsCovered, PointsAreSingle}
use Rattle.dcel_delaunay.specs.declared.lists.Ends.{Ends}
use Rattle.dcel_delaunay.specs.declared.triangles.triangle.Triangle.{Triangle}
use Rattle.dcel_maps.specs.Conditions.{IsUnconnected}
use Rattle.dcel_maps.specs.Numbers.{numbers_between}
use Rattle.dcel_maps.specs.Removals.{Closed}
use Rattle.dcel_maps.specs.Shapes.{face_count}
use Rattle.dcel_maps.specs.Triangulations.{AllTriangles}
use Rattle.dcel_plane.specs.Plane.{TrianglesTurnLeft, point_at}
use Rattle.dcel_regions.specs.Regions.{IsReached}
use Rattle.dcel_triangulations.specs.Lists.{IsPut, across_told, links_told, no_number, point_told}
use Rattle.dcel_triangulations.specs.constrained.Held.{State}
use Rattle.dcel_triangulations.specs.declared.buffers.DcelAcross.{DcelAcross}
use Rattle.dcel_triangulations.specs.declared.links.DcelHalfEdge.{DcelHalfEdge}
use Rattle.dcel_triangulations.specs.declared.points.DcelPoint.{DcelPoint}
use Rattle.std.specs.Prelude.{◌≡◌, ◌<◌, ◌≤◌, ◌+◌, ℕ, List, filter, length, map, min, slice_get, Some}

-- the points of the vertices, by number
abbrev pub points_of : State → List DcelPoint
points_of t = map point_told (marked_mesh t).vertex_data

-- the corners of the triangles
abbrev pub triangles_of : State → List Triangle
triangles_of t = map (corners_of (marked_mesh t)) (inner_faces (marked_mesh t).shape)

-- the triangles across from these corners
abbrev pub neighbors_of : State → List DcelAcross
neighbors_of t = map across_told (map (across_of (marked_mesh t)) (inner_faces (marked_mesh t).shape))

-- the ends of the edges, by number
abbrev pub edges_of : State → List Ends
edges_of t = map (ends_of (marked_mesh t).shape) (numbers_between 0 (marked_mesh t).shape.edges)

-- the vertices of the hull
abbrev pub hull_of : State → List ℕ
hull_of t = hull_vertices (marked_mesh t)

-- the links of the half edges
abbrev pub half_edges_of : State → List DcelHalfEdge
half_edges_of t = links_told (marked_mesh t).shape

-- the ends of the edges that are constraints, by number
abbrev pub constraints_of : State → List Ends
constraints_of t = map (ends_of (marked_mesh t).shape) (filter (hides (marked_mesh t)) (numbers_between 0 (marked_mesh t).shape.edges))

-- triangles that go round counterclockwise, with all vertices as corners, cover the convex hull without overlaps, and the outer face goes round
-- it; no two vertices have one point; each edge that isn't locally Delaunay is a constraint, and inside the circle of no triangle is a vertex
-- that it sees past no constraint. If all points are on one line, it is a path along it.
pub record IsConstrainedTriangulation (t : State) : Type 0 where
  pub closed : (marked_mesh t).shape.removal ≡ Closed
  pub triangles : AllTriangles (marked_mesh t).shape
  pub joined : (v : ℕ) → 1 < (marked_mesh t).shape.vertices → ¬ IsUnconnected (marked_mesh t).shape v
  pub plane : TrianglesTurnLeft (point_at (marked_mesh t)) (marked_mesh t).shape
  pub apart : FacesAreApart (marked_mesh t)
  pub covers : 1 < face_count (marked_mesh t).shape → HullIsCovered (marked_mesh t)
  pub single : PointsAreSingle (marked_mesh t)
  pub hull : GoesRoundHull (marked_mesh t)
  pub constrained : IsConstrainedDelaunay (marked_mesh t)
  pub visible : CirclesInSightAreEmpty (marked_mesh t)

-- the least number of constraints that a way from outside to the face crosses
pub record IsDepth (t : State) (face depth : ℕ) : Type 0 where
  pub reached : IsReached (marked_mesh t) face depth
  pub least : (k : ℕ) → IsReached (marked_mesh t) face k → depth ≤ k

-- the depth of each triangle, in the order of their faces
pub record ListsDepths (t : State) (depths : List ℕ) : Type 0 where
  pub counted : length depths + 1 ≡ face_count (marked_mesh t).shape
  pub each : (i depth : ℕ) → slice_get depths i ≡ Some depth → IsDepth t (i + 1) depth

-- a depth as it is told; a greater number than 32 bits have is the greatest that they have
abbrev pub depth_told : ℕ → ℕ
depth_told depth = min depth no_number

-- the depths stand in the buffer
abbrev pub PutsDepths : (before after : List ℕ) (needed status : ℕ) → State → Type 0
PutsDepths before after needed status t = (depths : List ℕ) × ListsDepths t depths × IsPut (map depth_told depths) before after needed status
