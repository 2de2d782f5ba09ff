-- Steps as they are written.
use Rattle.std.specs.Prelude.{◌≡◌, ℕ, ◌+◌, ◌*◌, ◌^◌, ℤ, pos, ◌*ℤ◌}
use Rattle.dcel_floats.specs.Floats.{signed}
use Rattle.dcel_decimals.specs.declared.steps.Steps.{Steps}

-- the number times 2 ^ places
abbrev pub size_of : Steps → ℕ
size_of s = s.whole * 2 ^ s.places + s.rest

-- the number is steps * step / 2 ^ halvings
abbrev pub IsExactly : ℕ → ℕ → ℤ → Steps → Type 0
IsExactly step halvings steps s = signed s.is_negative (size_of s * 2 ^ halvings) ≡ steps *ℤ pos (step * 2 ^ s.places)
