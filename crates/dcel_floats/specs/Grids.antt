-- Floats on grids. The step is 2 ^ power units.
use Rattle.std.specs.Prelude.{ℕ, ◌*◌, ◌^◌, ◌≤◌, ℤ, pos, ◌*ℤ◌, unsigned_abs}
use Rattle.std.specs.Float.Ieee.{Float}
use Rattle.dcel_floats.specs.Floats.{IsUnits}
use Rattle.dcel_floats.specs.Rounding.{IsNearest}

-- the float is within 2^53 steps of 0
abbrev pub FitsGrid : ℕ → Float → Type 0
FitsGrid power x = (number : ℤ) × IsUnits x number × (unsigned_abs number ≤ 2 ^ 53 * 2 ^ power)

-- the number of steps nearest to the float
abbrev pub Snaps : ℕ → Float → ℤ → Type 0
Snaps power x steps = (number : ℤ) × IsUnits x number × IsNearest (2 ^ power) number steps

-- the float is that number of steps
abbrev pub IsMultiple : ℕ → ℤ → Float → Type 0
IsMultiple power steps x = IsUnits x (steps *ℤ pos (2 ^ power))
