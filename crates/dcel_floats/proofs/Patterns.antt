-- Floats by their bits.
use Rattle.std.proofs.Common.{◌≡◌, ℕ, suc, ◌+◌, ◌*◌, ◌/◌, ◌%◌, ◌^◌, ◌<◌, ◌≤◌, Bool, true, false, cond, eqb, leb, T, not, arith, refl, sym, ap, subst, ◌∙◌}
use Rattle.std.proofs.lemmas.Bool.Decides.{nat_tests}
use lib.Ieee.{Float, nan, inf, fin, down, binary64, eq, ne, is_nan, fits, of_bits, of_fields, to_bits}
use lib.Ieee.Bits.{of_bits-to_bits}
use lib.Ieee.Compare.{differs_from_itself}
use lib.Ieee.Exact.{HasValue, odd_sign}
use Rattle.dcel_floats.specs.declared.binary.Binary.{Binary}
use Rattle.dcel_floats.specs.Floats.{IsFinite, units}
use Rattle.dcel_floats.specs.Binaries.{IsBinary, size_of}

-- what differs from itself is no number, and all else isn't `nan`
pub no_number : (x : Float) → ne x x ≡ true → IsFinite x → ⊥
no_number x e finite = subst IsFinite (differs_from_itself x (subst T (sym e) tt)) finite

pub not_nan : (x : Float) → ne x x ≡ false → T (not (is_nan x))
unfolding ne eq is_nan
not_nan nan e = absurd (let h : true ≡ false = e in grind arith)
not_nan (inf s) e = tt
not_nan (fin s m e) told = tt

-- the parts of a pattern
infinite : (s : Bool) (t : ℕ) → IsFinite (of_fields binary64 s 2047 t) → ⊥
unfolding of_fields
infinite s t = by_digits (eqb t 0)
  where
    by_digits : (b : Bool) → IsFinite (cond b (inf s) nan) → ⊥
    by_digits true finite = finite
    by_digits false finite = finite

low : (s : Bool) (t : ℕ) → HasValue (of_fields binary64 s 0 t) s (t * 2 ^ 0) (2 ^ 1074)
unfolding of_fields
low s t = odd_sign 53 s t 0 1074

high : (s : Bool) (k t : ℕ) → eqb (suc k) 2047 ≡ false → HasValue (of_fields binary64 s (suc k) t) s ((2 ^ 52 + t) * 2 ^ k) (2 ^ 1074)
unfolding of_fields
high s k t e = rw e (odd_sign 53 s (2 ^ 52 + t) k 1074)

-- a value, read as a number in parts
by_value : (x : Float) (s : Bool) (a : ℕ) (b : Binary) → HasValue x s a (2 ^ 1074) → b.is_negative ≡ s → b.mantissa * 2 ^ b.power ≡ a → IsBinary x b
unfolding units
by_value nan s a b has sign is = has
by_value (inf t) s a b has sign is = has
by_value (fin t m e) s a b has sign is = (sign ∙ sym has.0, has.1 ∙ ap (λ (n : ℕ). n * down e) (sym is))

module _ (x : Float) (fit : T (fits binary64 x)) where
  back : of_bits binary64 (to_bits binary64 x) ≡ x
  back = of_bits-to_bits binary64 x fit

  abbrev pub pattern : ℕ
  pattern = to_bits binary64 x

  read : of_fields binary64 (leb (2 ^ 63) pattern) (pattern % 2 ^ 63 / 2 ^ 52) (pattern % 2 ^ 52) ≡ x
  unfolding of_bits
  read = back

  pub infinite_is : pattern % 2 ^ 63 / 2 ^ 52 ≡ 2047 → IsFinite x → ⊥
  infinite_is e finite =
      infinite (leb (2 ^ 63) pattern) (pattern % 2 ^ 52) (subst IsFinite (sym (ap (λ (k : ℕ). of_fields binary64 (leb (2 ^ 63) pattern) k (pattern % 2 ^ 52)) (sym e) ∙ read)) finite)

  pub low_is : (b : Binary) → pattern % 2 ^ 63 / 2 ^ 52 ≡ 0 → b.is_negative ≡ leb (2 ^ 63) pattern → b.mantissa ≡ pattern % 2 ^ 52 → b.power ≡ 0 → IsBinary x b
  low_is b e sign mantissa power =
      by_value x (leb (2 ^ 63) pattern) (pattern % 2 ^ 52 * 2 ^ 0) b
      (subst (λ (y : Float). HasValue y (leb (2 ^ 63) pattern) (pattern % 2 ^ 52 * 2 ^ 0) (2 ^ 1074))
      (ap (λ (k : ℕ). of_fields binary64 (leb (2 ^ 63) pattern) k (pattern % 2 ^ 52)) (sym e) ∙ read) (low (leb (2 ^ 63) pattern) (pattern % 2 ^ 52)))
      sign (rw (mantissa, power) refl)

  pub high_is : (b : Binary) (k : ℕ) → pattern % 2 ^ 63 / 2 ^ 52 ≡ suc k → ¬ (suc k ≡ 2047) → b.is_negative ≡ leb (2 ^ 63) pattern → b.mantissa ≡ 2 ^ 52 + pattern % 2 ^ 52 → b.power ≡ k → IsBinary x b
  high_is b k e apart sign mantissa power =
      by_value x (leb (2 ^ 63) pattern) ((2 ^ 52 + pattern % 2 ^ 52) * 2 ^ k) b
      (subst (λ (y : Float). HasValue y (leb (2 ^ 63) pattern) ((2 ^ 52 + pattern % 2 ^ 52) * 2 ^ k) (2 ^ 1074))
      (ap (λ (j : ℕ). of_fields binary64 (leb (2 ^ 63) pattern) j (pattern % 2 ^ 52)) (sym e) ∙ read) (high (leb (2 ^ 63) pattern) k (pattern % 2 ^ 52) (unlike (suc k) 2047 apart)))
      sign (rw (mantissa, power) refl)
    where
      unlike : (m n : ℕ) → ¬ (m ≡ n) → eqb m n ≡ false
      unlike m n h = grind (arith, nat_tests)

-- a pattern, put together from its parts
module _ (x t : ℕ) (hx : x < 2047) (ht : t < 2 ^ 52) where
  same_fields : (s s' : Bool) (y y' u u' : ℕ) → s ≡ s' → y ≡ y' → u ≡ u' → of_fields binary64 s y u ≡ of_fields binary64 s' y' u'
  same_fields s s' y y' u u' es ey eu = rw (es, ey, eu) refl

  pub negative_fields : of_bits binary64 (2 ^ 63 + (x * 2 ^ 52 + t)) ≡ of_fields binary64 true x t
  unfolding of_bits
  negative_fields =
      let p = 2 ^ 63 + (x * 2 ^ 52 + t) in
      same_fields (leb (2 ^ 63) p) true (p % 2 ^ 63 / 2 ^ 52) x (p % 2 ^ 52) t (above (2 ^ 63) p (omega arith)) (omega arith) (omega arith)
    where
      above : (m n : ℕ) → m ≤ n → leb m n ≡ true
      above m n h = grind (arith, nat_tests)

  pub positive_fields : of_bits binary64 (x * 2 ^ 52 + t) ≡ of_fields binary64 false x t
  unfolding of_bits
  positive_fields =
      let p = x * 2 ^ 52 + t in
      same_fields (leb (2 ^ 63) p) false (p % 2 ^ 63 / 2 ^ 52) x (p % 2 ^ 52) t (below (2 ^ 63) p (omega arith)) (omega arith) (omega arith)
    where
      below : (m n : ℕ) → n < m → leb m n ≡ false
      below m n h = grind (arith, nat_tests)

-- the float with the fields of a number
pub low_fields : (x : Float) (s : Bool) (t : ℕ) (b : Binary) → x ≡ of_fields binary64 s 0 t → b.is_negative ≡ s → size_of b ≡ t * 2 ^ 0 → IsBinary x b
low_fields x s t b is sign size = by_value x s (t * 2 ^ 0) b (subst (λ (y : Float). HasValue y s (t * 2 ^ 0) (2 ^ 1074)) (sym is) (low s t)) sign size

pub high_fields : (x : Float) (s : Bool) (k t : ℕ) (b : Binary) → k < 2046 → x ≡ of_fields binary64 s (suc k) t → b.is_negative ≡ s → size_of b ≡ (2 ^ 52 + t) * 2 ^ k → IsBinary x b
high_fields x s k t b small is sign size =
    by_value x s ((2 ^ 52 + t) * 2 ^ k) b (subst (λ (y : Float). HasValue y s ((2 ^ 52 + t) * 2 ^ k) (2 ^ 1074)) (sym is) (high s k t (unlike (suc k) 2047 (omega arith)))) sign size
  where
    unlike : (m n : ℕ) → m < n → eqb m n ≡ false
    unlike m n h = grind (arith, nat_tests)
