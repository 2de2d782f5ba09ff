-- The points that a unit makes of coordinates.
use Rattle.std.specs.Prelude.{◌≡◌, ℕ, ◌+◌, ◌*◌, ◌/◌, ◌≤◌, All, List, length, Some, slice_get, ℤ}
use Rattle.dcel_decimals.specs.declared.decimal.Decimal.{Decimal}
use Rattle.dcel_decimals.specs.Grids.{FitsGrid, Snaps}
use Rattle.dcel_decimals.specs.declared.grid.Grid.{Grid as AGrid}
use Rattle.dcel_decimals.specs.Scaling.{Becomes}
use Rattle.dcel_decimals.specs.declared.grid.Snapped.{Snapped}
use Rattle.dcel_predicates.specs.declared.point.Point.{Point}
use Rattle.delaunay.specs.declared.unit.Unit.{Unit}
use Rattle.delaunay.specs.declared.unit.Unit.TheVariants.{Grid, Scale}

-- the number is the decimal times the scale, or the number of steps of the grid that is nearest to it
abbrev pub IsPlace : Unit → Decimal → ℤ → Type 0
IsPlace (Scale scale) d n = Becomes d scale.power n
IsPlace (Grid grid) d n = (s : Snapped) × Snaps grid.halvings d s × (n ≡ s.steps)

-- so are the coordinates of the point
pub record IsPointOf (unit : Unit) (x y : Decimal) (p : Point) : Type 0 where
  pub x_is : IsPlace unit x p.x
  pub y_is : IsPlace unit y p.y

-- the i-th two of the coordinates are those of the point
abbrev pub IsPointAt : Unit → List Decimal → ℕ → Point → Type 0
IsPointAt unit all i p = (x y : Decimal) → slice_get all (2 * i) ≡ Some x → slice_get all (2 * i + 1) ≡ Some y → IsPointOf unit x y p

-- each two of them make a point
pub record ArePointsOf (unit : Unit) (all : List Decimal) (points : List Point) : Type 0 where
  pub count : length points ≡ length all / 2
  pub each : (i : ℕ) (p : Point) → slice_get points i ≡ Some p → IsPointAt unit all i p

-- the finest grid on which all of these decimals, and all of those, are within 2 ^ 53 steps of 0; none has a step below 2 ^ -96
pub record IsFinest (grid : AGrid) (these those : List Decimal) : Type 0 where
  pub fits : All (FitsGrid grid.halvings) these
  pub also : All (FitsGrid grid.halvings) those
  pub finest : (halvings : ℕ) → halvings ≤ 106 → All (FitsGrid halvings) these → All (FitsGrid halvings) those → halvings ≤ grid.halvings

-- it is the finest grid for these
abbrev pub IsOnFinest : Unit → (these those : List Decimal) → Type 0
IsOnFinest unit these those = (grid : AGrid) × (unit ≡ Grid grid) × IsFinest grid these those
