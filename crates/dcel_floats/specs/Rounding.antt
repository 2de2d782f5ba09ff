-- Rounding to the nearest multiple of a step, ties to even (IEEE 754-2019, 4.3.1, roundTiesToEven).
use Rattle.std.specs.Prelude.{◌≡◌, ℕ, ◌+◌, ◌-◌, ◌*◌, ◌%◌, ◌≤◌, ℤ, pos, ◌-ℤ◌, ◌*ℤ◌, unsigned_abs}

-- how far n steps are from a number
abbrev pub error_of : ℕ → ℤ → ℤ → ℕ
error_of step number n = unsigned_abs ((n *ℤ pos step) -ℤ number)

-- n steps are as near as any number of steps, no farther than half a step, and n is even where two are equally near
pub record IsNearest (step : ℕ) (number n : ℤ) : Type 0 where
  pub nearest : (other : ℤ) → error_of step number n ≤ error_of step number other
  pub half : 2 * error_of step number n ≤ step
  pub even : 2 * error_of step number n ≡ step → unsigned_abs n % 2 ≡ 0

-- the same of sizes, by the half alone
abbrev pub distance_of : ℕ → ℕ → ℕ
distance_of a b = (a - b) + (b - a)

pub record IsRounded (step size n : ℕ) : Type 0 where
  pub half : 2 * distance_of (n * step) size ≤ step
  pub even : 2 * distance_of (n * step) size ≡ step → n % 2 ≡ 0
