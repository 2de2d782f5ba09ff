-- Numbers of points in the place of those of vertices. A vertex beyond the list of numbers keeps its own.
use Rattle.std.specs.Prelude.{◌≡◌, ◌<◌, ◌≤ℤ◌, ℕ, List, Option, None, Some, length, map}
use Rattle.std.specs.List.{slice_index_or}
use Rattle.dcel_maps.specs.Numbers.{numbers_between}
use Rattle.dcel_maps.specs.Shapes.{Mesh}
use Rattle.dcel_predicates.specs.Determinants.{squared_distance_of}
use Rattle.dcel_predicates.specs.declared.point.Point.{Point}
use Rattle.dcel_plane.specs.Plane.{point_at}
use Rattle.dcel_plane.specs.location.Nearest.{IsNearest}
use Rattle.dcel_delaunay.specs.Bulk.{StandAt}
use Rattle.dcel_delaunay.specs.Listing.{NamesLeast}
use Rattle.dcel_delaunay.specs.Lists.{corners_of, ends_of, hull_vertices, inner_faces}
use Rattle.dcel_delaunay.specs.Triangles.{IsLeastNumber, point_numbered}
use Rattle.dcel_delaunay.specs.declared.lists.Ends.{Ends}
use Rattle.dcel_delaunay.specs.declared.triangles.triangle.Triangle.{Triangle}

abbrev pub number_at : List ℕ → ℕ → ℕ
number_at numbers v = slice_index_or numbers v v

abbrev pub triangle_numbered : List ℕ → Triangle → Triangle
triangle_numbered numbers t = record { first = number_at numbers t.first; second = number_at numbers t.second; third = number_at numbers t.third }

abbrev pub ends_numbered : List ℕ → Ends → Ends
ends_numbered numbers e = record { from = number_at numbers e.from; to = number_at numbers e.to }

module _ {DE UE F : Type 0} where
  -- each point stands at a vertex, at each vertex a point, and each vertex has the least number of those that do
  pub record NumbersVertices (m : Mesh Point DE UE F) (points : List Point) (numbers : List ℕ) : Type 0 where
    pub vertices : List ℕ
    pub stand : StandAt m points vertices
    pub from : (v : ℕ) → v < m.shape.vertices → (i : ℕ) × (i < length points) × (point_numbered points i ≡ point_at m v)
    pub least : NamesLeast vertices 0 numbers
    pub count : length numbers ≡ m.shape.vertices

  -- the number stands at a vertex that no other one is nearer to the place than, and there is none only if there is no vertex
  abbrev pub IsNearestNumbered : Mesh Point DE UE F → List ℕ → Point → Option ℕ → Type 0
  IsNearestNumbered m numbers place None = m.shape.vertices ≡ 0
  IsNearestNumbered m numbers place (Some n) = (v : ℕ) × (v < m.shape.vertices) × IsNearest (point_at m) m.shape place v × (n ≡ number_at numbers v)

-- no other point is nearer to the place, and there is none only if there is no point
abbrev pub IsNearestPoint : List Point → Point → Option ℕ → Type 0
IsNearestPoint points place None = length points ≡ 0
IsNearestPoint points place (Some n) = IsLeastNumber points n
    × ((i : ℕ) → i < length points → squared_distance_of (point_numbered points n) place ≤ℤ squared_distance_of (point_numbered points i) place)

module _ {V DE UE F : Type 0} where
  -- the corners of the inner faces, one after another
  abbrev pub triangles_numbered : Mesh V DE UE F → List ℕ → List Triangle
  triangles_numbered m numbers = map (triangle_numbered numbers) (map (corners_of m) (inner_faces m.shape))

  -- the ends of the edges
  abbrev pub edges_numbered : Mesh V DE UE F → List ℕ → List Ends
  edges_numbered m numbers = map (ends_numbered numbers) (map (ends_of m.shape) (numbers_between 0 m.shape.edges))

  -- the hull, counterclockwise
  abbrev pub hull_numbered : Mesh V DE UE F → List ℕ → List ℕ
  hull_numbered m numbers = map (number_at numbers) (hull_vertices m)
