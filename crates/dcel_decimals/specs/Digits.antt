-- Numbers without a sign, while they are read.
use Rattle.std.specs.Prelude.{◌≡◌, ℕ, ◌+◌, ◌*◌, ◌^◌, ◌<◌, ◌≤◌, List, Result, Ok, Err}
use Rattle.std.specs.Str.Parse.{AllDigits, digits_value, digits_value_after}
use Rattle.std.specs.Float.Numeral.{Parts, numeral_digits, tens_up, tens_down}
use Rattle.dcel_decimals.specs.declared.digits.Digits.{Digits}
use Rattle.dcel_decimals.specs.declared.digits.Unsigned.{Unsigned}
use Rattle.dcel_decimals.specs.declared.errors.DecimalError.{DecimalError}
use Rattle.dcel_decimals.specs.declared.errors.DecimalError.TheVariants.{NotDecimal, OutOfRange, TooManyDigits, FarExponent}

abbrev pub number_of : Digits → ℕ
number_of d = d.significant * 10 ^ d.zeros

-- whatever digits follow, what is before the zeros at the end has more than 25 digits
abbrev pub IsLong : ℕ → Type 0
IsLong n = (more : List ℕ) (m zeros : ℕ) → AllDigits 10 more → digits_value_after 10 n more ≡ m * 10 ^ zeros → 10 ^ 25 ≤ m

-- no size of at most 25 digits with at most 400 places is n * 10 ^ up / 10 ^ down
abbrev pub IsNoUnsigned : ℕ → ℕ → ℕ → Type 0
IsNoUnsigned n up down = (size places : ℕ) → size < 10 ^ 25 → places ≤ 400 → size * 10 ^ down ≡ n * 10 ^ (up + places) → ⊥

-- what n * 10 ^ up / 10 ^ down is read as
abbrev pub Reads : ℕ → ℕ → ℕ → Result Unsigned DecimalError → Type 0
Reads n up down (Ok u) = u.size * 10 ^ down ≡ n * 10 ^ (up + u.places)
Reads n up down (Err OutOfRange) = 2 ^ 63 * 10 ^ down ≤ n * 10 ^ up
Reads n up down (Err TooManyDigits) = IsNoUnsigned n up down
Reads n up down (Err NotDecimal) = ⊥
Reads n up down (Err FarExponent) = ⊥

-- what a numeral is read as
abbrev pub ReadsNumeral : Parts → Result Unsigned DecimalError → Type 0
ReadsNumeral p (Ok u) = Reads (numeral_digits p) (tens_up p) (tens_down p) (Ok u)
ReadsNumeral p (Err OutOfRange) = Reads (numeral_digits p) (tens_up p) (tens_down p) (Err OutOfRange)
ReadsNumeral p (Err TooManyDigits) = Reads (numeral_digits p) (tens_up p) (tens_down p) (Err TooManyDigits)
ReadsNumeral p (Err NotDecimal) = ⊥
ReadsNumeral p (Err FarExponent) = 2 ^ 64 ≤ digits_value 10 p.exponent
