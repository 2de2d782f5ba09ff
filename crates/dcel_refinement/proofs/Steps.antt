-- Degrees in steps.
use Rattle.std.proofs.Common.{◌≡◌, ℕ, suc, ◌+◌, ◌*◌, ◌^◌, ◌<◌, ◌≤◌, ℤ, pos, ◌*ℤ◌, IsTrue, Bool, true, false, refl, lit<, arith, sym, ap, ◌∙◌}
use Rattle.std.specs.Int.{div_ceil}
use Rattle.std.proofs.Math.IntN.{pos-*ℤ-pos}
use Rattle.std.proofs.Math.Nat.{eq_of_mul-eq-mul_right, lt_of_mul-lt-mul_right, mul-le-mul_right, mul-lt-mul_of_pos_right, mul_assoc, mul_comm, zero-mul}
use Rattle.std.proofs.lemmas.Grind.{div_ceil_times}
use Rattle.std.proofs.lemmas.Bool.Decides.{nat_tests}
use Rattle.std.proofs.lemmas.Int.{ints}
use borrow.Author.Tests.{ltb-true}
use lib.Dec.{ltb}
use lib.Ieee.{Float, nan, inf, fin, up, down, lt}
use lib.Ieee.Fits.{down_pos}
use lib.Pow.{pow_pos}
use Rattle.dcel_floats.specs.Floats.{IsUnits, signed, units}
use Rattle.dcel_refinement.specs.Tangents.{eighth, steps_of}

-- fewer steps than a quotient rounded up
below_ceil : (a d k : ℕ) → 0 < d → k * d < a → k < div_ceil a d
below_ceil a d k some h = let e = div_ceil_times a d some in lt_of_mul-lt-mul_right d (omega (arith, e.0))

ceil_below : (a d k : ℕ) → 0 < d → k < div_ceil a d → k * d < a
ceil_below a d k some h =
    let e = div_ceil_times a d some in
    let more : suc k * d ≤ div_ceil a d * d = mul-le-mul_right d h in
    let next : suc k * d ≡ k * d + d = omega arith in
    omega (arith, e.1)

-- fractions p / e and r / d, the first of which is k / 65536
module _ (p e r d k : ℕ) (some_e : 0 < e) (some_d : 0 < d) (is : p * 65536 ≡ k * e) where
  left : p * d * 65536 ≡ k * d * e
  left =
      mul_assoc p d 65536
      ∙ ap (λ (n : ℕ). p * n) (mul_comm d 65536)
      ∙ sym (mul_assoc p 65536 d)
      ∙ ap (λ (n : ℕ). n * d) is
      ∙ mul_assoc k e d
      ∙ ap (λ (n : ℕ). k * n) (mul_comm e d)
      ∙ sym (mul_assoc k d e)

  right : r * e * 65536 ≡ r * 65536 * e
  right = mul_assoc r e 65536 ∙ ap (λ (n : ℕ). r * n) (mul_comm e 65536) ∙ sym (mul_assoc r 65536 e)

  fewer : p * d < r * e → k < div_ceil (r * 65536) d
  fewer h = below_ceil (r * 65536) d k some_d (lt_of_mul-lt-mul_right e (omega (arith, left, right)))

  less : k < div_ceil (r * 65536) d → p * d < r * e
  less h =
      let few : k * d < r * 65536 = ceil_below (r * 65536) d k some_d h in
      let times : k * d * e < r * 65536 * e = mul-lt-mul_of_pos_right few some_e in
      omega (arith, left, right)

-- a fraction n / d that is k units
in_steps : (n k d u : ℕ) → 0 < u → n * (65536 * u) ≡ k * u * d → n * 65536 ≡ k * d
in_steps n k d u some is =
    eq_of_mul-eq-mul_right u some (n * 65536) (k * d) (mul_assoc n 65536 u ∙ is ∙ mul_assoc k u d ∙ ap (λ (j : ℕ). k * j) (mul_comm u d) ∙ sym (mul_assoc k d u))

unit : ℕ
unit = 2 ^ 1058

units_are : units ≡ 65536 * 2 ^ 1058
unfolding units
units_are = refl

size_signed : (s : Bool) (n k : ℕ) → signed s n ≡ pos k → n ≡ k
size_signed false n k is = omega (arith, ints)
size_signed true n k is = omega (arith, ints)

no_size : (n k : ℕ) → signed true n ≡ pos k → n ≡ 0
no_size n k is = omega (arith, ints)

module _ (s : Bool) (m : ℕ) (e held : ℤ) (k : ℕ) (same : held ≡ pos k) (is : IsUnits (fin s m e) (held *ℤ pos (2 ^ 1058))) where
  natural : signed s (m * up e * units) ≡ pos (k * 2 ^ 1058 * down e)
  natural =
      is
      ∙ ap (λ (z : ℤ). (z *ℤ pos (2 ^ 1058)) *ℤ pos (down e)) same
      ∙ ap (λ (z : ℤ). z *ℤ pos (down e)) (pos-*ℤ-pos k (2 ^ 1058))
      ∙ pos-*ℤ-pos (k * 2 ^ 1058) (down e)

  steps_are : m * up e * 65536 ≡ k * down e
  steps_are =
      in_steps (m * up e) k (down e) (2 ^ 1058) (pow_pos 1058)
      (ap (λ (n : ℕ). m * up e * n) (sym units_are) ∙ size_signed s (m * up e * units) (k * 2 ^ 1058 * down e) natural)

none_negative : (m : ℕ) (e held : ℤ) (k : ℕ) → held ≡ pos k → IsUnits (fin true m e) (held *ℤ pos (2 ^ 1058)) → (d : ℤ) → m * up e * down d ≡ 0
none_negative m e held k same is d = ap (λ (n : ℕ). n * down d) none ∙ zero-mul (down d)
  where
    none : m * up e ≡ 0
    none =
        eq_of_mul-eq-mul_right (65536 * 2 ^ 1058) (lit< tt) (m * up e) 0
        (ap (λ (n : ℕ). m * up e * n) (sym units_are) ∙ no_size (m * up e * units) (k * 2 ^ 1058 * down e) (natural true m e held k same is) ∙ sym (zero-mul (65536 * 2 ^ 1058)))

test : (a b : ℕ) → a < b → IsTrue (ltb a b)
test a b h = grind (arith, nat_tests)

-- the float of so many steps is below another one exactly if that has more
pub below_steps
    : (y x : Float) (held : ℤ) (k : ℕ)
    → held ≡ pos k
    → k < eighth
    → IsUnits y (held *ℤ pos (2 ^ 1058))
    → (IsTrue (lt y x) → k < steps_of x) × (k < steps_of x → IsTrue (lt y x))
unfolding lt
below_steps nan x held k same few is = absurd is
below_steps (inf s) x held k same few is = absurd is
below_steps (fin s m e) nan held k same few is = (λ t. absurd (cc), λ h. absurd (omega (arith, h)))
below_steps (fin s m e) (inf true) held k same few is = (λ t. absurd (cc), λ h. absurd (omega (arith, h)))
below_steps (fin s m e) (inf false) held k same few is = (λ t. few, λ h. refl)
below_steps (fin false m e) (fin true n d) held k same few is = (λ t. absurd (cc), λ h. absurd (omega (arith, h)))
below_steps (fin true m e) (fin true n d) held k same few is =
    (λ t. absurd (let h = ltb-true (n * up d * down e) (m * up e * down d) t in omega (arith, none_negative m e held k same is d)), λ h. absurd (omega (arith, h)))
below_steps (fin false m e) (fin false n d) held k same few is =
    let at = steps_are false m e held k same is in (
      λ t.
          let h = fewer (m * up e) (down e) (n * up d) (down d) k (down_pos e) (down_pos d) at (ltb-true (m * up e * down d) (n * up d * down e) t) in
          omega (arith, h, few),
      λ h. test (m * up e * down d) (n * up d * down e) (less (m * up e) (down e) (n * up d) (down d) k (down_pos e) (down_pos d) at (omega (arith, h))),
    )
below_steps (fin true m e) (fin false n d) held k same few is =
    let at = steps_are true m e held k same is in
    let none = none_negative m e held k same is d in (
      λ t.
          let some = ltb-true 0 (m * up e * down d + n * up d * down e) t in
          let h = fewer (m * up e) (down e) (n * up d) (down d) k (down_pos e) (down_pos d) at (omega (arith, none, some)) in
          omega (arith, h, few),
      λ h.
          let some = less (m * up e) (down e) (n * up d) (down d) k (down_pos e) (down_pos d) at (omega (arith, h)) in
          test 0 (m * up e * down d + n * up d * down e) (omega (arith, none, some)),
    )
