-- Points, as a host gives them.
use Rattle.std.specs.Prelude.{◌≡◌, ◌⊎◌, ◌<◌, ◌^◌, ℕ, List, map, slice_get, Some, unsigned_abs}
use Rattle.dcel_predicates.specs.declared.point.Point.{Point}
use Rattle.mesh_page.specs.declared.points.MeshPagePoint.{MeshPagePoint}

-- the point has the coordinates that are given
pub record IsAt (given : MeshPagePoint) (p : Point) : Type 0 where
  pub x : p.x ≡ given.x
  pub y : p.y ≡ given.y

-- so do the points of a list, in their order
pub record AreRead (given : List MeshPagePoint) (points : List Point) : Type 0 where
  pub x : map (λ (p : Point). p.x) points ≡ map (λ (p : MeshPagePoint). p.x) given
  pub y : map (λ (p : Point). p.y) points ≡ map (λ (p : MeshPagePoint). p.y) given

-- a coordinate of the point is below -2^53 or above 2^53
abbrev pub IsFar : MeshPagePoint → Type 0
IsFar p = (2 ^ 53 < unsigned_abs p.x) ⊎ (2 ^ 53 < unsigned_abs p.y)

-- one of them does
pub record HasFar (given : List MeshPagePoint) : Type 0 where
  pub place : ℕ
  pub point : MeshPagePoint
  pub is : slice_get given place ≡ Some point
  pub far : IsFar point
