-- The numbers that texts write.
use Rattle.std.specs.Prelude.{◌≡◌, ℕ, ◌+◌, ◌*◌, ◌^◌, ◌<◌, ◌≤◌, true, ℤ, pos, ◌*ℤ◌, List, length, unsigned_abs}
use Rattle.std.specs.Str.Parse.{starts_with_minus, digits_value}
use Rattle.std.specs.Float.Parse.{without_sign}
use Rattle.std.specs.Float.Numeral.{Parts, scan_numeral, has_digits, numeral_digits, tens_up, tens_down}
use Rattle.fast_float.specs.Text.{with_sign}
use Rattle.dcel_decimals.specs.declared.errors.DecimalError.{DecimalError}
use Rattle.dcel_decimals.specs.declared.errors.DecimalError.TheVariants.{NotDecimal, OutOfRange, TooManyDigits, FarExponent}

-- what stands behind the sign: digits, perhaps a point and digits, perhaps an exponent
abbrev pub numeral_of : List ℕ → Parts
numeral_of text = scan_numeral (without_sign text)

-- a sign or none, a numeral that has a digit, and nothing else
pub record IsDecimalText (text : List ℕ) : Type 0 where
  pub digits : has_digits (numeral_of text) ≡ true
  pub whole : (numeral_of text).len ≡ length (without_sign text)

-- the text writes number / 10 ^ places
abbrev pub Writes : List ℕ → ℤ → ℕ → Type 0
Writes text number places = let n = numeral_of text in
    number *ℤ pos (10 ^ tens_down n) ≡ with_sign (starts_with_minus text) (numeral_digits n * 10 ^ (tens_up n + places))

-- why no decimal is read from a text
abbrev pub MayNotRead : List ℕ → DecimalError → Type 0
MayNotRead text NotDecimal = ¬ (IsDecimalText text)
MayNotRead text OutOfRange = let n = numeral_of text in IsDecimalText text × (2 ^ 63 * 10 ^ tens_down n ≤ numeral_digits n * 10 ^ tens_up n)
MayNotRead text TooManyDigits = IsDecimalText text × ((number : ℤ) (places : ℕ) → unsigned_abs number < 10 ^ 25 → places ≤ 400 → Writes text number places → ⊥)
MayNotRead text FarExponent = IsDecimalText text × (2 ^ 64 ≤ digits_value 10 (numeral_of text).exponent)
