-- Floats by their fields.
use Rattle.std.specs.Prelude.{◌≡◌, ℕ, ℤ, ◌*◌, ◌^◌, ◌≤◌}
use Rattle.std.specs.Float.Ieee.{Float, nan, inf, fin, up, down}
use Rattle.dcel_floats.specs.declared.binary.Binary.{Binary}
use Rattle.dcel_floats.specs.Floats.{signed, units}

-- the number without its sign, in units
abbrev pub size_of : Binary → ℕ
size_of b = b.mantissa * 2 ^ b.power

-- the number, in units
abbrev pub value_of : Binary → ℤ
value_of b = signed b.is_negative (size_of b)

-- the float is this number
abbrev pub IsBinary : Float → Binary → Type 0
IsBinary nan b = ⊥
IsBinary (inf s) b = ⊥
IsBinary (fin s m e) b = (b.is_negative ≡ s) × (m * up e * units ≡ size_of b * down e)

-- within 2^53 steps of 2 ^ power units
abbrev pub IsWithin : ℕ → Binary → Type 0
IsWithin power b = size_of b ≤ 2 ^ 53 * 2 ^ power
