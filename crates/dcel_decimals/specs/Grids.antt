-- Decimals on grids. The step is 2 ^ 10 / 2 ^ halvings, and a unit the 1024th part of it. Numbers are times 10 ^ places and 2 ^ halvings here.
use Rattle.std.specs.Prelude.{ℕ, ◌+◌, ◌*◌, ◌^◌, ◌<◌, ◌≤◌, ℤ, pos, ◌*ℤ◌, unsigned_abs}
use Rattle.dcel_floats.specs.Rounding.{IsNearest, error_of}
use Rattle.dcel_decimals.specs.declared.decimal.Decimal.{Decimal}
use Rattle.dcel_decimals.specs.declared.grid.Snapped.{Snapped}

-- within 2 ^ 53 steps of 0
abbrev pub FitsGrid : ℕ → Decimal → Type 0
FitsGrid halvings d = unsigned_abs d.mantissa * 2 ^ halvings ≤ 2 ^ 63 * 10 ^ d.places

abbrev pub step_of : Decimal → ℕ
step_of d = 2 ^ 10 * 10 ^ d.places

abbrev pub number_of : ℕ → Decimal → ℤ
number_of halvings d = d.mantissa *ℤ pos (2 ^ halvings)

-- the steps are the nearest ones, and the shift is how far they are from the decimal in units, rounded up
pub record Snaps (halvings : ℕ) (d : Decimal) (s : Snapped) : Type 0 where
  pub nearest : IsNearest (step_of d) (number_of halvings d) s.steps
  pub enough : error_of (step_of d) (number_of halvings d) s.steps ≤ s.shift * 10 ^ d.places
  pub least : s.shift * 10 ^ d.places < error_of (step_of d) (number_of halvings d) s.steps + 10 ^ d.places
