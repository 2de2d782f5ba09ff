-- Fractions rounded down.
use Rattle.std.specs.Prelude.{◌≡◌, ℕ, ◌+◌, ◌*◌, ◌%◌, ◌<◌, ◌≤◌, ◌↔◌, ◌⊎◌, Bool, false, IsTrue}
use Rattle.dcel_floats.specs.Rounding.{distance_of}

-- n / d rounded down, and whether it is exactly that
pub record IsFloor (n d count : ℕ) (is_exact : Bool) : Type 0 where
  pub least : count * d ≤ n
  pub most : n < (count + 1) * d
  pub exact : IsTrue is_exact ↔ (count * d ≡ n)

-- how far the steps are from n, in units of d, rounded up
pub record IsShift (step d n steps shift : ℕ) : Type 0 where
  pub enough : distance_of (steps * step) n ≤ shift * d
  pub least : shift * d < distance_of (steps * step) n + d

-- steps, 1024th parts and maybe less than another part are more than half a step, or half a step at an odd number of steps
abbrev pub GoesUp : ℕ → ℕ → Bool → Type 0
GoesUp whole part is_exact = (512 < part) ⊎ ((part ≡ 512) × ((is_exact ≡ false) ⊎ (whole % 2 ≡ 1)))
