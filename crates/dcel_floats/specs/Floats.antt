-- The numbers that floats are (IEEE 754-2019, 3.4).
use Rattle.std.specs.Prelude.{◌≡◌, ℕ, ℤ, pos, neg_ℤ, ◌*◌, ◌*ℤ◌, ◌^◌, Bool, true, false}
use Rattle.std.specs.Float.Ieee.{Float, nan, inf, fin, up, down}

-- how many of the least floats above 0 make 1
unfoldable pub units : ℕ
units = 2 ^ 1074

-- a size with a sign
abbrev pub signed : Bool → ℕ → ℤ
signed true n = neg_ℤ (pos n)
signed false n = pos n

abbrev pub IsFinite : Float → Type 0
IsFinite nan = ⊥
IsFinite (inf s) = ⊥
IsFinite (fin s m e) = Unit {0}

-- the float is this number of units
abbrev pub IsUnits : Float → ℤ → Type 0
IsUnits nan number = ⊥
IsUnits (inf s) number = ⊥
IsUnits (fin s m e) number = signed s (m * up e * units) ≡ number *ℤ pos (down e)
