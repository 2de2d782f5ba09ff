-- What a triangulation has, as lists, and where points are in it.
use Rattle.dcel_constrained.specs.Constrained.{marked_mesh}
use Rattle.dcel_constrained.specs.Sight.{CirclesInSightAreEmpty, hides}
use Rattle.dcel_constrained.specs.Soundness.{IsConstrainedDelaunay}
use Rattle.dcel_delaunay.specs.Lists.{corners_of, ends_of, inner_faces}
use Rattle.dcel_delaunay.specs.Triangles.{AreDelaunayTriangles}
use Rattle.dcel_delaunay.specs.Triangulated.{FacesAreApart, GoesRoundHull, HullIsCovered, IsNearestIn, PointsAreSingle, mesh_in}
use Rattle.dcel_delaunay.specs.declared.lists.Ends.{Ends}
use Rattle.dcel_delaunay.specs.declared.triangles.triangle.Triangle.{Triangle}
use Rattle.dcel_exports.specs.Answers.{filled}
use Rattle.dcel_maps.specs.Conditions.{IsUnconnected}
use Rattle.dcel_maps.specs.Numbers.{numbers_between}
use Rattle.dcel_maps.specs.Removals.{Closed}
use Rattle.dcel_maps.specs.Shapes.{Mesh, face_count}
use Rattle.dcel_maps.specs.Triangulations.{AllTriangles}
use Rattle.dcel_plane.specs.Plane.{TrianglesTurnLeft, point_at}
use Rattle.dcel_predicates.specs.declared.point.Point.{Point}
use Rattle.mesh_page.specs.Given.{IsAt}
use Rattle.mesh_page.specs.Keeping.{IsEither, IsWhole, IsWholeMarked, Marked, State}
use Rattle.mesh_page.specs.declared.desk.Thing.{Thing}
use Rattle.mesh_page.specs.declared.points.MeshPagePoint.{MeshPagePoint}
use Rattle.std.specs.Prelude.{◌≡◌, ◌<◌, ◌-◌, ◌^◌, ℕ, List, filter, length, map, Option, unwrap_or}

-- the buffer was filled with a list, and its length is the count
pub record IsPut {T : Type 0} (list before after : List T) (needed : ℕ) : Type 0 where
  pub put : after ≡ filled list before
  pub counted : needed ≡ length list

-- a vertex, or what stands where there is none
abbrev pub vertex_told : Option ℕ → ℕ
vertex_told v = unwrap_or v (2 ^ 32 - 1)

module _ {UE : Type 0} where
  -- the corners of the triangles
  abbrev pub triangles_of : Mesh Point (Unit {0}) UE (Unit {0}) → List Triangle
  triangles_of m = map (corners_of m) (inner_faces m.shape)

  -- no vertex is nearer to the point than the one that is told
  pub record IsNearestTo (given : MeshPagePoint) (told : ℕ) (m : Mesh Point (Unit {0}) UE (Unit {0})) : Type 0 where
    pub point : Point
    pub is : IsAt given point
    pub vertex : Option ℕ
    pub nearest : IsNearestIn m point vertex
    pub tells : told ≡ vertex_told vertex

-- the triangles are a Delaunay triangulation of the points
abbrev pub ListsDelaunayTriangles : State → Type 0
ListsDelaunayTriangles t = AreDelaunayTriangles (mesh_in t).vertex_data (triangles_of (mesh_in t))

-- triangles that go round counterclockwise, with all vertices as corners, cover the convex hull without overlaps, and the outer face goes round
-- it; no two vertices have one point; each edge that isn't locally Delaunay is a constraint, and inside the circle of no triangle is a vertex
-- that it sees past no constraint. If all points are on one line, it is a path along it.
pub record IsConstrainedTriangulation (t : Marked) : Type 0 where
  pub closed : (marked_mesh t).shape.removal ≡ Closed
  pub triangles : AllTriangles (marked_mesh t).shape
  pub joined : (v : ℕ) → 1 < (marked_mesh t).shape.vertices → ¬ IsUnconnected (marked_mesh t).shape v
  pub plane : TrianglesTurnLeft (point_at (marked_mesh t)) (marked_mesh t).shape
  pub apart : FacesAreApart (marked_mesh t)
  pub covers : 1 < face_count (marked_mesh t).shape → HullIsCovered (marked_mesh t)
  pub single : PointsAreSingle (marked_mesh t)
  pub hull : GoesRoundHull (marked_mesh t)
  pub constrained : IsConstrainedDelaunay (marked_mesh t)
  pub visible : CirclesInSightAreEmpty (marked_mesh t)

-- the ends of the edges that are constraints, by number
abbrev pub constraints_of : Marked → List Ends
constraints_of t = map (ends_of (marked_mesh t).shape) (filter (hides (marked_mesh t)) (numbers_between 0 (marked_mesh t).shape.edges))

-- the triangles of what is on a desk stand in the buffer
abbrev pub PutsTriangles : (before after : List Triangle) (needed : ℕ) → Thing → Type 0
PutsTriangles before after needed =
    IsEither (λ t. IsPut (triangles_of (mesh_in t)) before after needed) (λ t. IsPut (triangles_of (marked_mesh t)) before after needed)

-- if it is whole, they are its Delaunay triangulation, or the constrained one
abbrev pub HasTriangulation : Thing → Type 0
HasTriangulation = IsEither (λ t. IsWhole t → ListsDelaunayTriangles t) (λ t. IsWholeMarked t → IsConstrainedTriangulation t)

abbrev pub TellsNearest : MeshPagePoint → ℕ → Thing → Type 0
TellsNearest given told = IsEither (λ t. IsNearestTo given told (mesh_in t)) (λ t. IsNearestTo given told (marked_mesh t))

-- something in it is left undone
abbrev pub IsUnfinished : Thing → Type 0
IsUnfinished = IsEither (λ t. ¬ IsWhole t) (λ t. ¬ IsWholeMarked t)
