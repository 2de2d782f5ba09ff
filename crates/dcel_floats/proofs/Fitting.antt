-- Floats that fit a grid.
use Rattle.std.proofs.Common.{◌≡◌, ℕ, ◌+◌, ◌*◌, ◌^◌, ◌<◌, ◌≤◌, ℤ, pos, unsigned_abs, Bool, List, length, take, get_or, All, sym, ap, subst, ◌∙◌}
use Rattle.std.proofs.Math.Nat.{eq_of_mul-eq-mul_right, le_trans, mul-le-mul_left}
use Rattle.std.proofs.lemmas.Int.{unsigned_abs-mul}
use Rattle.std.proofs.lemmas.List.{take_all}
use Rattle.std.proofs.lemmas.List.Elements.{All-get_or, All-more, All-same, All-weaker}
use lib.Ieee.{Float, nan, inf, fin, up, down}
use lib.Ieee.Fits.{down_pos}
use lib.Pow.{pow_mono}
use Rattle.dcel_floats.specs.declared.binary.Binary.{Binary}
use Rattle.dcel_floats.specs.Floats.{IsFinite, IsUnits, signed, units}
use Rattle.dcel_floats.specs.Grids.{FitsGrid}
use Rattle.dcel_floats.specs.Binaries.{IsBinary, IsWithin, size_of, value_of}
use Rattle.dcel_floats.proofs.Roundings.{signed-mul, size_signed}

-- the number of units
pub units_by : (x : Float) (b : Binary) → IsBinary x b → IsUnits x (value_of b)
units_by nan b is = is
units_by (inf s) b is = is
units_by (fin s m e) b (sign, is) = ap (signed s) is ∙ ap (λ (t : Bool). signed t (size_of b * down e)) (sym sign) ∙ signed-mul b.is_negative (size_of b) (down e)

-- a float is one number
same_size : (x : Float) (b : Binary) (number : ℤ) → IsBinary x b → IsUnits x number → unsigned_abs number ≡ size_of b
same_size nan b number is also = absurd is
same_size (inf s) b number is also = absurd is
same_size (fin s m e) b number (sign, is) also =
    eq_of_mul-eq-mul_right (down e) (down_pos e) (unsigned_abs number) (size_of b)
    (sym (unsigned_abs-mul number (pos (down e))) ∙ ap unsigned_abs (sym also) ∙ size_signed s (m * up e * units) ∙ is)

pub fits_by : (k : ℕ) (x : Float) (b : Binary) → IsBinary x b → FitsGrid k x → IsWithin k b
fits_by k x b is (number, also, within) = subst (λ (n : ℕ). n ≤ 2 ^ 53 * 2 ^ k) (same_size x b number is also) within

pub fits_finite : (k : ℕ) (x : Float) → FitsGrid k x → IsFinite x
fits_finite k nan (number, is, within) = is
fits_finite k (inf s) (number, is, within) = is
fits_finite k (fin s m e) fits = tt

pub finite_by : (x : Float) (b : Binary) → IsBinary x b → IsFinite x
finite_by nan b is = is
finite_by (inf s) b is = is
finite_by (fin s m e) b is = tt

-- what fits a grid fits a coarser one
pub fits_within : (k l : ℕ) (x : Float) (b : Binary) → k ≤ l → IsBinary x b → IsWithin k b → FitsGrid l x
fits_within k l x b h is within = (
  value_of b,
  units_by x b is,
  subst (λ (n : ℕ). n ≤ 2 ^ 53 * 2 ^ l) (sym (size_signed b.is_negative (size_of b))) (le_trans within (mul-le-mul_left (2 ^ 53) (pow_mono h))),
)

stays_fit : (k l : ℕ) → k ≤ l → (x : Float) → FitsGrid k x → FitsGrid l x
stays_fit k l h x (number, is, within) = (number, is, le_trans within (mul-le-mul_left (2 ^ 53) (pow_mono h)))

-- one number more
module _ (xs : List Float) (i : ℕ) (b : Binary) (here : i < length xs) (is : IsBinary (get_or xs i nan) b) where
  pub more_fit : (k own l : ℕ) → k ≤ l → own ≤ l → IsWithin own b → All (FitsGrid k) (take i xs) → All (FitsGrid l) (take (i + 1) xs)
  more_fit k own l below own_below within so_far =
      All-more (FitsGrid l) xs i nan here (All-weaker (FitsGrid k) (FitsGrid l) (stays_fit k l below) (take i xs) so_far) (fits_within own l (get_or xs i nan) b own_below is within)

  pub more_finite : All IsFinite (take i xs) → All IsFinite (take (i + 1) xs)
  more_finite so_far = All-more IsFinite xs i nan here so_far (finite_by (get_or xs i nan) b is)

  pub still_finest : (own : ℕ) → ((k : ℕ) → IsWithin k b → own ≤ k) → (k : ℕ) → All (FitsGrid k) xs → own ≤ k
  still_finest own finest k all = finest k (fits_by k (get_or xs i nan) b is (All-get_or (FitsGrid k) xs i nan here all))

pub all_of : (P : Float → Type 0) (xs : List Float) (i : ℕ) → length xs ≤ i → All P (take i xs) → All P xs
all_of P xs i past so_far = All-same P xs (take i xs) (sym (take_all i xs past)) so_far

pub not_all_finite : (xs : List Float) (i : ℕ) → i < length xs → (IsFinite (get_or xs i nan) → ⊥) → All IsFinite xs → ⊥
not_all_finite xs i here none all = none (All-get_or IsFinite xs i nan here all)
