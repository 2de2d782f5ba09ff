-- A Delaunay triangulation of points, told by the numbers of these.
use Rattle.std.specs.Prelude.{◌≡◌, ◌≢◌, ◌⊎◌, ◌<◌, ◌≤◌, ◌*◌, ◌^◌, ℕ, List, length, slice_get, slice_index_or, Some, pos, ◌≤ℤ◌, All, Contains}
use Rattle.dcel_predicates.specs.declared.point.Point.{Point}
use Rattle.dcel_predicates.specs.Determinants.{incircle_of, orient2d_of}
use Rattle.dcel_plane.specs.Plane.{TurnsLeft, origin_point}
use Rattle.dcel_plane.specs.covering.Places.{AreDisjoint, IsIn, Place, orient_at}
use Rattle.dcel_planar.specs.declared.errors.InsertionError.{InsertionError}
use Rattle.dcel_planar.specs.declared.errors.InsertionError.TheVariants.{OutOfMemory, OutOfRange, TooManyPoints, Unfinished}
use Rattle.dcel_delaunay.specs.declared.triangles.triangle.Triangle.{Triangle}

-- the point of a number
abbrev pub point_numbered : List Point → ℕ → Point
point_numbered points i = slice_index_or points i origin_point

-- the least number of a point that stands there
pub record IsLeastNumber (points : List Point) (i : ℕ) : Type 0 where
  pub below : i < length points
  pub least : (j : ℕ) → point_numbered points j ≡ point_numbered points i → i ≤ j

-- its corners are points, it goes round counterclockwise, and no point lies inside its circle
pub record IsDelaunayTriangle (points : List Point) (t : Triangle) : Type 0 where
  pub first : IsLeastNumber points t.first
  pub second : IsLeastNumber points t.second
  pub third : IsLeastNumber points t.third
  pub left : TurnsLeft (point_numbered points t.first) (point_numbered points t.second) (point_numbered points t.third)
  pub empty : (i : ℕ) → i < length points
      → incircle_of (point_numbered points t.first) (point_numbered points t.second) (point_numbered points t.third) (point_numbered points i) ≤ℤ pos 0

-- all points stand on one line
abbrev pub AreOnLine : List Point → Type 0
AreOnLine points = (i j k : ℕ) → i < length points → j < length points → k < length points
    → orient2d_of (point_numbered points i) (point_numbered points j) (point_numbered points k) ≡ pos 0

-- the place lies in the convex hull of the points: where no point lies on the left of the line from one to another, nor does the place
abbrev pub LiesAmong : List Point → Place → Type 0
LiesAmong points p = (i j : ℕ) → i < length points → j < length points
    → ((k : ℕ) → k < length points → orient2d_of (point_numbered points i) (point_numbered points j) (point_numbered points k) ≤ℤ pos 0)
    → orient_at (point_numbered points i) (point_numbered points j) p ≤ℤ pos 0

-- a triangle that stands in the list has the place inside or on its border
pub record LiesInOneOf (points : List Point) (triangles : List Triangle) (p : Place) : Type 0 where
  pub place : ℕ
  pub triangle : Triangle
  pub stands : slice_get triangles place ≡ Some triangle
  pub lies : IsIn (point_numbered points triangle.first) (point_numbered points triangle.second) (point_numbered points triangle.third) p

-- a Delaunay triangulation (B. Delaunay, "Sur la sphère vide", 1934): empty triangles that overlap nowhere and cover the convex hull, unless all
-- points stand on one line
pub record AreDelaunayTriangles (points : List Point) (triangles : List Triangle) : Type 0 where
  pub each : (i : ℕ) (t : Triangle) → slice_get triangles i ≡ Some t → IsDelaunayTriangle points t
  pub apart : (i j : ℕ) (t u : Triangle) → slice_get triangles i ≡ Some t → slice_get triangles j ≡ Some u → i ≢ j
      → AreDisjoint (point_numbered points t.first) (point_numbered points t.second) (point_numbered points t.third)
      (point_numbered points u.first) (point_numbered points u.second) (point_numbered points u.third)
  pub covers : AreOnLine points ⊎ ((p : Place) → LiesAmong points p → LiesInOneOf points triangles p)

-- so many different points that edge numbers may run out: n vertices have at most 3n - 3 edges, another vertex adds three, and there are 2^31
-- edge numbers
pub record AreTooMany (points : List Point) : Type 0 where
  pub different : List Point
  pub from : All (Contains points) different
  pub single : (i j : ℕ) → i < length different → j < length different → point_numbered different i ≡ point_numbered different j → i ≡ j
  pub many : 2 ^ 31 < 3 * length different

-- points aren't triangulated: there are too many, or memory ran out
abbrev pub FailsToTriangulate : List Point → InsertionError → Type 0
FailsToTriangulate points OutOfRange = ⊥
FailsToTriangulate points TooManyPoints = AreTooMany points
FailsToTriangulate points OutOfMemory = Unit {0}
FailsToTriangulate points Unfinished = Unit {0}
