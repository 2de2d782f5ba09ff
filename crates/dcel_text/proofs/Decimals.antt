-- Which items are the decimals of a number.
use Rattle.std.proofs.Common.{◌≡◌, ◌≢◌, ℕ, ◌+◌, ◌-◌, ◌*◌, ◌^◌, ◌<◌, ◌≤◌, List, ◌∷◌, length, get_or, take, drop, suc, sym, ap, subst, ◌∙◌, arith, rules, tests, inl, inr, true, length-take}
use Rattle.std.specs.Prelude.{ℤ, pos, negsuc, ◌⊎◌}
use Rattle.std.specs.Int.{IsInRange}
use Rattle.std.specs.Fmt.{decimal, signed_decimal}
use Rattle.std.specs.Char.{digit_value, is_ascii_digit}
use Rattle.std.specs.Str.Parse.{AllDigits, digits_value}
use Rattle.std.proofs.lemmas.Bool.{cases_eq}
use Rattle.std.proofs.lemmas.Str.{digit_value_digit}
use Rattle.std.proofs.lemmas.Int.Digits.{digits_more, digits_value_more}
use Rattle.std.proofs.lemmas.Str.Parse.{IsNumeralModel, numerals_by_value, tells_digits, digit_at, digits_value_short}
use Rattle.std.proofs.lemmas.Fmt.{digits_decimal, decimal_nonempty, length-decimal-le, first_decimal, decimal_digit, decimal_injective, decimal-digits_value}
use Rattle.dcel_text.specs.Numbers.{IsNumber, IsDatum}

pub numerals : IsNumeralModel (AllDigits 10) (digits_value 10)
numerals = numerals_by_value (AllDigits 10) tells_digits

-- ---- what is no number

pub none_if_empty : (t : List ℕ) → length t ≡ 0 → (n : ℕ) → n < 10 ^ 19 → t ≢ decimal n
none_if_empty t l n lt e = omega (arith, decimal_nonempty n (omega arith), ap length e)

pub none_if_long : (t : List ℕ) → 19 < length t → (n : ℕ) → n < 10 ^ 19 → t ≢ decimal n
none_if_long t l n lt e = omega (arith, length-decimal-le 19 n (omega arith) (omega arith) (omega arith), ap length e)

pub none_if_zero_leads : (t : List ℕ) → 1 < length t → get_or t 0 0 ≡ 48 → (n : ℕ) → n < 10 ^ 19 → t ≢ decimal n
none_if_zero_leads t l z n lt e =
    elim (cases_eq n 0) [
      | inl n0 ↦ omega (arith, ap length (e ∙ ap decimal n0 ∙ decimal_digit 0 (omega arith)))
      | inr nz ↦ omega (arith, first_decimal n (omega arith) (omega arith), ap (λ (x : List ℕ). get_or x 0 0) e)
    ]

pub none_if_no_digit : (t : List ℕ) (i : ℕ) → i < length t → (IsInRange 48 57 (get_or t i 0) → ⊥) → (n : ℕ) → n < 10 ^ 19 → t ≢ decimal n
none_if_no_digit t i l none n lt e =
    none (digit_at t i (subst (AllDigits 10) (sym e) (digits_decimal numerals n (omega arith))) l)

none_if_too_large : (t : List ℕ) (m : ℕ) → m < 2 ^ 64 → t ≡ decimal m → 2 ^ 32 ≤ m → (n : ℕ) → IsNumber n → t ≢ decimal n
none_if_too_large t m lt e le n small f = omega (arith, decimal_injective m n (omega arith) (omega arith) (sym e ∙ f))

-- the first item is a number above the range
pub too_large : (items others : List (List ℕ)) (item : List ℕ) (m : ℕ) → items ≡ item ∷ others → m < 2 ^ 64 → item ≡ decimal m → 2 ^ 32 ≤ m
    → (n : ℕ) (more : List (List ℕ)) → IsNumber n → items ≢ decimal n ∷ more
too_large items others item m e lt is le n more small same = none_if_too_large item m lt is le n small (cc)

-- ---- the value of digits

pub digits_are_decimal : (t : List ℕ) → AllDigits 10 t → 0 < length t → length t ≤ 19 → (1 < length t → get_or t 0 0 ≢ 48) → t ≡ decimal (digits_value 10 t)
digits_are_decimal t d l s z =
    let b : digits_value 10 t < 10 ^ 19 = digits_value_short numerals t 19 d s in
    sym (decimal-digits_value numerals t d l (λ h. elim (cases_eq (length t) 1) [ inl e ↦ e | inr ne ↦ absurd (z (omega arith) h) ]) (omega arith))

pub is_ascii_digit-in_range : (b : ℕ) → IsInRange 48 57 b → is_ascii_digit b ≡ true
is_ascii_digit-in_range b h = search (rules, tests)

pub digits_value-below : (t : List ℕ) (i : ℕ) → i < length t → length t ≤ 19 → AllDigits 10 (take i t) → digits_value 10 (take i t) < 10 ^ 18
digits_value-below t i lt l d = digits_value_short numerals (take i t) 18 d (omega (arith, length-take i t))

digit_in_range : (b : ℕ) → is_ascii_digit b ≡ true → (48 ≤ b) × (b ≤ 57) × (digit_value b ≡ b - 48)
digit_in_range b h =
    let r : IsInRange 48 57 b = search (rules, tests) in
    (r.0, r.1, omega (arith, digit_value_digit b r))

pub digits_value-next : (t : List ℕ) (i : ℕ) → i < length t → is_ascii_digit (get_or t i 0) ≡ true → AllDigits 10 (take i t)
    → AllDigits 10 (take (i + 1) t) × (digits_value 10 (take i t) * 10 + (get_or t i 0 - 48) ≡ digits_value 10 (take (i + 1) t))
digits_value-next t i lt h d =
    let b = digit_in_range (get_or t i 0) h in
    (digits_more 10 t i lt d (omega (arith, b.2)), omega (arith, b.2, digits_value_more 10 t i lt))

-- ---- what is no datum

pub first_digit : (n : ℕ) → n < 10 ^ 19 → 48 ≤ get_or (decimal n) 0 0
first_digit n lt = (digit_at (decimal n) 0 (digits_decimal numerals n (omega arith)) (decimal_nonempty n (omega arith))).0

pub none_after_minus : (t digits : List ℕ) → digits ≡ drop 1 t → get_or t 0 0 ≡ 45 → ((n : ℕ) → n < 10 ^ 19 → digits ≢ decimal n) → (d : ℤ) → IsDatum d → t ≢ signed_decimal d
none_after_minus t digits s m none (pos n) fits e = omega (arith, first_digit n (omega arith), ap (λ (x : List ℕ). get_or x 0 0) e)
none_after_minus t digits s m none (negsuc n) fits e = none (suc n) (omega arith) (s ∙ ap (drop 1) e)

pub none_below_least : (t digits : List ℕ) (m : ℕ) → digits ≡ drop 1 t → get_or t 0 0 ≡ 45 → m < 2 ^ 64 → digits ≡ decimal m → (m ≡ 0) ⊎ (2 ^ 63 < m) → (d : ℤ) → IsDatum d → t ≢ signed_decimal d
none_below_least t digits m s h lt e w (pos n) fits f = omega (arith, first_digit n (omega arith), ap (λ (x : List ℕ). get_or x 0 0) f)
none_below_least t digits m s h lt e w (negsuc n) fits f =
    let i = decimal_injective m (suc n) (omega arith) (omega arith) (sym e ∙ (s ∙ ap (drop 1) f)) in
    elim w [ inl z ↦ omega arith | inr b ↦ omega arith ]

pub none_above_greatest : (t : List ℕ) (m : ℕ) → (0 < length t → get_or t 0 0 ≢ 45) → m < 2 ^ 64 → t ≡ decimal m → 2 ^ 63 ≤ m → (d : ℤ) → IsDatum d → t ≢ signed_decimal d
none_above_greatest t m h lt e le (pos n) fits f = let i = decimal_injective m n (omega arith) (omega arith) (sym e ∙ f) in omega arith
none_above_greatest t m h lt e le (negsuc n) fits f = h (omega (arith, ap length f)) (ap (λ (x : List ℕ). get_or x 0 0) f)
