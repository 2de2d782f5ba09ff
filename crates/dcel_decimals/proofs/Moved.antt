-- Numbers times ten to one power, divided by ten to another.
use Rattle.std.proofs.Common.{◌≡◌, ℕ, Result, Ok, Err, min, ◌+◌, ◌-◌, ◌*◌, ◌^◌, ◌<◌, ◌≤◌, ◌%◌, ap, sym, ◌∙◌, arith, lit<, refl, [], inl, inr}
use Rattle.std.proofs.Math.Nat.{le_of_mul-le-mul_right, pow-le-pow_right, mul-le-mul_right, mul-le-mul}
use Rattle.std.proofs.lemmas.Bool.{cases_lt}
use Rattle.dcel_decimals.specs.declared.digits.Unsigned.{Unsigned}
use Rattle.dcel_decimals.specs.declared.errors.DecimalError.{DecimalError}
use Rattle.dcel_decimals.specs.declared.errors.DecimalError.TheVariants.{NotDecimal, OutOfRange, TooManyDigits, FarExponent}
use Rattle.dcel_decimals.specs.Digits.{IsLong, IsNoUnsigned, Reads}
use Rattle.dcel_decimals.proofs.Powers.{twice, keeps, larger, cancelled, some}
use Rattle.dcel_decimals.proofs.Long.{long_is_large}

-- what s * 10 ^ a / 10 ^ b is read as, s * 10 ^ z * 10 ^ up / 10 ^ down is, too
module _ (s z up down a b : ℕ) (e : a + down ≡ z + up + b) where
  spread : (q : ℕ) → (s * 10 ^ (a + q)) * 10 ^ down ≡ ((s * 10 ^ z) * 10 ^ (up + q)) * 10 ^ b
  spread q =
      sym (twice s (a + q) down (a + q + down) refl)
      ∙ twice s (z + (up + q)) b (a + q + down) (omega arith)
      ∙ ap (λ (n : ℕ). n * 10 ^ b) (twice s z (up + q) (z + (up + q)) refl)

  exchanged : (size : ℕ) → (size * 10 ^ b) * 10 ^ down ≡ (size * 10 ^ down) * 10 ^ b
  exchanged size = sym (twice size b down (b + down) refl) ∙ twice size down b (b + down) (omega arith)

  pub moved : (r : Result Unsigned DecimalError) → Reads s a b r → Reads (s * 10 ^ z) up down r
  moved (Ok u) reads = cancelled (u.size * 10 ^ down) ((s * 10 ^ z) * 10 ^ (up + u.places)) b (sym (exchanged u.size) ∙ ap (λ (n : ℕ). n * 10 ^ down) reads ∙ spread u.places)
  moved (Err OutOfRange) reads =
      let more = mul-le-mul_right (10 ^ down) reads in
      let left = exchanged (2 ^ 63) in
      let right = spread 0 in
      let none : a + 0 ≡ a = omega arith in
      let nothing : up + 0 ≡ up = omega arith in
      let at : (s * 10 ^ a) * 10 ^ down ≡ ((s * 10 ^ z) * 10 ^ up) * 10 ^ b =
      ap (λ (n : ℕ). (s * 10 ^ n) * 10 ^ down) (sym none) ∙ right ∙ ap (λ (n : ℕ). ((s * 10 ^ z) * 10 ^ n) * 10 ^ b) nothing in
      le_of_mul-le-mul_right {k = 10 ^ b} (omega (arith, left, at, more)) (some b)
  moved (Err TooManyDigits) reads = λ size places hs hp is.
      reads size places hs hp
      (cancelled (size * 10 ^ b) (s * 10 ^ (a + places)) down (exchanged size ∙ ap (λ (n : ℕ). n * 10 ^ b) is ∙ sym (spread places)))
  moved (Err NotDecimal) reads = reads
  moved (Err FarExponent) reads = reads

-- whether digits are in range, where 7 places put all of them there
pub range_reached : (s p m : ℕ) → m ≡ min p 7 → s < 10 ^ 25 → 2 ^ 63 * 10 ^ m ≤ s → 2 ^ 63 * 10 ^ p ≤ s * 10 ^ 0
range_reached s p m e few large =
    elim (cases_lt 7 p) [
      | inl past ↦ absurd (let all : m ≡ 7 = omega (arith, e) in let at : 2 ^ 63 * 10 ^ m ≡ 2 ^ 63 * 10 ^ 7 = ap (λ (k : ℕ). 2 ^ 63 * 10 ^ k) all in omega (arith, at))
      | inr within ↦ let own : m ≡ p = omega (arith, e) in let at : 2 ^ 63 * 10 ^ m ≡ 2 ^ 63 * 10 ^ p = ap (λ (k : ℕ). 2 ^ 63 * 10 ^ k) own in omega (arith, at)
    ]

pub range_kept : (s p m : ℕ) → m ≡ min p 7 → s < 2 ^ 63 * 10 ^ m → s < 2 ^ 63 * 10 ^ p
range_kept s p m e small = let h : 10 ^ m ≤ 10 ^ p = pow-le-pow_right (lit< tt) {i = m} (omega (arith, e)) in omega arith

pub moved_far : (s z up down : ℕ) → 0 < s → (s % 10 ≡ 0 → s ≡ 0) → z + up + 400 < down → IsNoUnsigned (s * 10 ^ z) up down
moved_far s z up down p last far size places hs hp e =
    let f = twice s z (up + places) (z + (up + places)) refl in
    let r = keeps s (z + (up + places)) size down p last (f ∙ sym e) in
    omega (arith, r.0)

-- numbers whose digits are too many
pub long_beyond : (n up down : ℕ) → IsLong n → down ≤ up → 2 ^ 63 * 10 ^ down ≤ n * 10 ^ up
long_beyond n up down long h = let digits = long_is_large n long in let large : 2 ^ 63 ≤ n = omega arith in mul-le-mul large (pow-le-pow_right (lit< tt) h)

pub long_none : (n up down : ℕ) → IsLong n → IsNoUnsigned n up down
long_none n up down long size places hs hp e =
    elim (cases_lt (up + places) down) [
      | inl below ↦
          let k = down - (up + places) in
          let f = twice size k (up + places) down (omega arith) in
          let same : n ≡ size * 10 ^ k = cancelled n (size * 10 ^ k) (up + places) (sym e ∙ f) in
          let h = long [] size k tt same in
          omega arith
      | inr above ↦
          let k = (up + places) - down in
          let f = twice n k down (up + places) (omega arith) in
          let same : size ≡ n * 10 ^ k = cancelled size (n * 10 ^ k) down (e ∙ f) in
          let h = larger n k in
          let g = long_is_large n long in
          omega arith
    ]
