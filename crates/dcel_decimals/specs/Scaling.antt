-- Decimals times ten to a power.
use Rattle.std.specs.Prelude.{◌≡◌, ℕ, ◌*◌, ◌^◌, ◌<◌, ℤ, pos, ◌*ℤ◌, unsigned_abs}
use Rattle.dcel_decimals.specs.declared.decimal.Decimal.{Decimal}
use Rattle.dcel_decimals.specs.declared.errors.ScalingError.{ScalingError}
use Rattle.dcel_decimals.specs.declared.errors.ScalingError.TheVariants.{NotWhole, OutOfRange}

-- the decimal times 10 ^ power is this number
abbrev pub Becomes : Decimal → ℕ → ℤ → Type 0
Becomes d power number = number *ℤ pos (10 ^ d.places) ≡ d.mantissa *ℤ pos (10 ^ power)

-- it is whole
abbrev pub BecomesWhole : ℕ → Decimal → Type 0
BecomesWhole power d = (number : ℤ) × Becomes d power number

-- why it is no number that is taken
abbrev pub MayNotScale : Decimal → ℕ → ScalingError → Type 0
MayNotScale d power NotWhole = (number : ℤ) → Becomes d power number → ⊥
MayNotScale d power OutOfRange = 2 ^ 53 * 10 ^ d.places < unsigned_abs d.mantissa * 10 ^ power
