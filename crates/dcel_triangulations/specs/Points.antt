-- Points, as C gives them.
use Rattle.std.specs.Prelude.{◌≡◌, ◌⊎◌, ◌<◌, ◌^◌, ℕ, List, map, slice_get, Some, unsigned_abs}
use Rattle.dcel_predicates.specs.declared.point.Point.{Point}
use Rattle.dcel_triangulations.specs.declared.points.DcelPoint.{DcelPoint}

-- the point has the coordinates that are given
pub record IsAt (given : DcelPoint) (p : Point) : Type 0 where
  pub x : p.x ≡ given.x
  pub y : p.y ≡ given.y

-- so do the points of a list, in their order
pub record AreRead (given : List DcelPoint) (points : List Point) : Type 0 where
  pub x : map (λ (p : Point). p.x) points ≡ map (λ (g : DcelPoint). g.x) given
  pub y : map (λ (p : Point). p.y) points ≡ map (λ (g : DcelPoint). g.y) given

-- a coordinate of the point is below -2^53 or above 2^53
abbrev pub IsFar : DcelPoint → Type 0
IsFar g = (2 ^ 53 < unsigned_abs g.x) ⊎ (2 ^ 53 < unsigned_abs g.y)

-- the point in this row is the first of which one is
pub record IsFirstFar (given : List DcelPoint) (row : ℕ) : Type 0 where
  pub point : DcelPoint
  pub there : slice_get given row ≡ Some point
  pub far : IsFar point
  pub first : (i : ℕ) (g : DcelPoint) → i < row → slice_get given i ≡ Some g → ¬ IsFar g
