-- Narrow steps: their coordinates fit into 32 bits, and what is computed of them into 64 and 128.
use Rattle.std.proofs.Common.{◌≡◌, ◌≢◌, ◌⊎◌, inl, inr, ⊎_elim, ◌-◌, ◌^◌, ◌<◌, ◌≤◌, ℕ, ℤ, pos, neg_ℤ, ◌+ℤ◌, ◌-ℤ◌, ◌*ℤ◌, ◌<ℤ◌, ◌≤ℤ◌, ◌↔◌, IsTrue, unsigned_abs, FitsSigned, w64, of_z, bit_or, nat_lt, refl, arith}
use Rattle.std.specs.Int.{w128}
use Rattle.std.specs.Int.Signed.{lt_z}
use Rattle.std.proofs.lemmas.Bool.{cases_lt}
use Rattle.std.proofs.lemmas.Int.{ints, fits_signed_from_abs, to_z-of_z}
use Rattle.std.proofs.lemmas.Nat.{le_or_l, le_or_r, or_lt}
use Rattle.dcel_predicates.specs.Steps.{IsNarrow, cross_of, dot_of}
use Rattle.dcel_predicates.proofs.Integers.{product_within}
use Rattle.dcel_predicates.proofs.Machine.{in_64, in_128, fits_64, held_64}
use Rattle.dcel_predicates.proofs.Reaches.{told, tells}
use Rattle.dcel_predicates.proofs.Signs.{ordered}

-- a number of 32 bits
pub record Fits (x : ℤ) : Type 0 where
  pub least : neg_ℤ (pos (2 ^ 31)) ≤ℤ x
  pub most : x <ℤ pos (2 ^ 31)

-- the product of two is below 2^62, unless both are the least
product_below : (s t : ℤ) → Fits s → Fits t → (unsigned_abs (s *ℤ t) < 2 ^ 62) ⊎ ((s ≡ t) × (s *ℤ t ≡ pos (2 ^ 62)))
product_below s t hs ht =
    ⊎_elim
    (λ less. inl (let p = product_within s t (2 ^ 31 - 1) (2 ^ 31) (omega (arith, less)) (within t ht) in omega (arith, p)))
    (λ much. ⊎_elim
    (λ less. inl (let p = product_within s t (2 ^ 31) (2 ^ 31 - 1) (within s hs) (omega (arith, less)) in omega (arith, p)))
    (λ most. inr (corner s t (least s hs much) (least t ht most)))
    (cases_lt (unsigned_abs t) (2 ^ 31)))
    (cases_lt (unsigned_abs s) (2 ^ 31))
  where
    within : (x : ℤ) → Fits x → unsigned_abs x ≤ 2 ^ 31
    within x h = let a = h.least in let b = h.most in omega (arith, ints)

    least : (x : ℤ) → Fits x → 2 ^ 31 ≤ unsigned_abs x → x ≡ neg_ℤ (pos (2 ^ 31))
    least x h much = let a = h.least in let b = h.most in omega (arith, ints)

    corner : (s t : ℤ) → s ≡ neg_ℤ (pos (2 ^ 31)) → t ≡ neg_ℤ (pos (2 ^ 31)) → (s ≡ t) × (s *ℤ t ≡ pos (2 ^ 62))
    corner s t es et = rw (es, et) (refl, refl)

-- sums and differences of two such products
sum_below : (a b : ℤ) (p q r s : ℤ) → (unsigned_abs a < 2 ^ 62) ⊎ ((p ≡ q) × (a ≡ pos (2 ^ 62))) → (unsigned_abs b < 2 ^ 62) ⊎ ((r ≡ s) × (b ≡ pos (2 ^ 62))) → (p ≡ q → r ≢ s)
    → unsigned_abs (a +ℤ b) < 2 ^ 63
sum_below a b p q r s (inl ha) (inl hb) apart = omega (arith, ints)
sum_below a b p q r s (inl ha) (inr hb) apart = let is = hb.1 in omega (arith, ints)
sum_below a b p q r s (inr ha) (inl hb) apart = let is = ha.1 in omega (arith, ints)
sum_below a b p q r s (inr ha) (inr hb) apart = absurd (apart ha.0 hb.0)

difference_below : (a b : ℤ) {P Q : Type 0} → (unsigned_abs a < 2 ^ 62) ⊎ (P × (a ≡ pos (2 ^ 62))) → (unsigned_abs b < 2 ^ 62) ⊎ (Q × (b ≡ pos (2 ^ 62))) → unsigned_abs (a -ℤ b) < 2 ^ 63
difference_below a b (inl ha) (inl hb) = omega (arith, ints)
difference_below a b (inl ha) (inr hb) = let is = hb.1 in omega (arith, ints)
difference_below a b (inr ha) (inl hb) = let is = ha.1 in omega (arith, ints)
difference_below a b (inr ha) (inr hb) = let is = ha.1 in let too = hb.1 in omega (arith, ints)

-- as the machine multiplies them
module _ (s t : ℤ) (hs : Fits s) (ht : Fits t) where
  product_small : unsigned_abs (s *ℤ t) ≤ 2 ^ 62
  product_small = ⊎_elim (λ less. omega (arith, less)) (λ both. rw (both.1) (omega arith)) (product_below s t hs ht)

  held : (x : ℤ) → Fits x → in_64 x ≡ x
  held x h = held_64 x (let a = h.least in let b = h.most in omega (arith, ints))

  pub product_fits : FitsSigned w64 (in_64 s *ℤ in_64 t)
  product_fits = rw (held s hs, held t ht) (fits_64 _ product_small)

  product_held : in_64 (in_64 s *ℤ in_64 t) ≡ s *ℤ t
  product_held = rw (held s hs, held t ht) (held_64 _ product_small)

fits_below : (z : ℤ) → unsigned_abs z < 2 ^ 63 → FitsSigned w64 z
fits_below z h = fits_signed_from_abs w64 z (omega (arith, h))

held_below : (z : ℤ) → unsigned_abs z < 2 ^ 63 → in_64 z ≡ z
held_below z h = to_z-of_z w64 z (fits_below z h)

pub across_fits : (x y : ℤ) → IsNarrow x y → Fits x
across_fits x y h = record { least = h.left; most = h.right }

pub up_fits : (x y : ℤ) → IsNarrow x y → Fits y
up_fits x y h = record { least = h.down; most = h.up }

module _ (px py qx qy : ℤ) (hp : IsNarrow px py) (hq : IsNarrow qx qy) where
  fpx : Fits px
  fpx = across_fits px py hp

  fpy : Fits py
  fpy = up_fits px py hp

  fqx : Fits qx
  fqx = across_fits qx qy hq

  fqy : Fits qy
  fqy = up_fits qx qy hq

  pub first_cross_fits : FitsSigned w64 (in_64 px *ℤ in_64 qy)
  first_cross_fits = product_fits px qy fpx fqy

  pub second_cross_fits : FitsSigned w64 (in_64 py *ℤ in_64 qx)
  second_cross_fits = product_fits py qx fpy fqx

  pub first_dot_fits : FitsSigned w64 (in_64 px *ℤ in_64 qx)
  first_dot_fits = product_fits px qx fpx fqx

  pub second_dot_fits : FitsSigned w64 (in_64 py *ℤ in_64 qy)
  second_dot_fits = product_fits py qy fpy fqy

  cross_below : unsigned_abs (cross_of px py qx qy) < 2 ^ 63
  cross_below = difference_below (px *ℤ qy) (py *ℤ qx) (product_below px qy fpx fqy) (product_below py qx fpy fqx)

  pub cross_fits : FitsSigned w64 (in_64 (in_64 px *ℤ in_64 qy) -ℤ in_64 (in_64 py *ℤ in_64 qx))
  cross_fits = rw (product_held px qy fpx fqy, product_held py qx fpy fqx) (fits_below _ cross_below)

  pub cross_held : in_64 (in_64 (in_64 px *ℤ in_64 qy) -ℤ in_64 (in_64 py *ℤ in_64 qx)) ≡ cross_of px py qx qy
  cross_held = rw (product_held px qy fpx fqy, product_held py qx fpy fqx) (held_below _ cross_below)

  pub cross_bound : unsigned_abs (in_64 (in_64 (in_64 px *ℤ in_64 qy) -ℤ in_64 (in_64 py *ℤ in_64 qx))) < 2 ^ 63
  cross_bound = rw cross_held cross_below

  module _ (apart : px ≡ qx → py ≢ qy) where
    dot_below : unsigned_abs (dot_of px py qx qy) < 2 ^ 63
    dot_below = sum_below (px *ℤ qx) (py *ℤ qy) px qx py qy (product_below px qx fpx fqx) (product_below py qy fpy fqy) apart

    pub dot_fits : FitsSigned w64 (in_64 (in_64 px *ℤ in_64 qx) +ℤ in_64 (in_64 py *ℤ in_64 qy))
    dot_fits = rw (product_held px qx fpx fqx, product_held py qy fpy fqy) (fits_below _ dot_below)

    pub dot_held : in_64 (in_64 (in_64 px *ℤ in_64 qx) +ℤ in_64 (in_64 py *ℤ in_64 qy)) ≡ dot_of px py qx qy
    dot_held = rw (product_held px qx fpx fqx, product_held py qy fpy fqy) (held_below _ dot_below)

    pub dot_bound : unsigned_abs (in_64 (in_64 (in_64 px *ℤ in_64 qx) +ℤ in_64 (in_64 py *ℤ in_64 qy))) < 2 ^ 63
    dot_bound = rw dot_held dot_below

-- products of numbers below 2^63, and which of two is less
module _ (s t : ℤ) (hs : unsigned_abs s < 2 ^ 63) (ht : unsigned_abs t < 2 ^ 63) where
  widened_below : (z : ℤ) → unsigned_abs z < 2 ^ 63 → in_128 (in_64 z) ≡ z
  widened_below z h = rw (held_below z h) (to_z-of_z w128 z (fits_signed_from_abs w128 z (omega (arith, h))))

  wide_product_below : unsigned_abs (s *ℤ t) < 2 ^ 126
  wide_product_below = let p = product_within s t (2 ^ 63 - 1) (2 ^ 63 - 1) (omega (arith, hs)) (omega (arith, ht)) in omega (arith, p)

  wide_product_small : FitsSigned w128 (s *ℤ t)
  wide_product_small = fits_signed_from_abs w128 (s *ℤ t) (let h = wide_product_below in omega (arith, h))

  pub wide_product_fits : FitsSigned w128 (in_128 (in_64 s) *ℤ in_128 (in_64 t))
  wide_product_fits = rw (widened_below s hs, widened_below t ht) wide_product_small

  pub wide_product_held : in_128 (in_128 (in_64 s) *ℤ in_128 (in_64 t)) ≡ s *ℤ t
  wide_product_held = rw (widened_below s hs, widened_below t ht) (to_z-of_z w128 (s *ℤ t) wide_product_small)

-- which of two numbers is less
less_is : (x y : ℤ) → IsTrue (lt_z x y) ↔ (pos 0 <ℤ (y -ℤ x))
less_is x y = (λ is. let less : x <ℤ y = grind arith in omega (arith, ordered, less), λ more. let less : x <ℤ y = omega (arith, ordered, more) in grind arith)

pub products_compared : (s t u v : ℤ) → unsigned_abs s < 2 ^ 63 → unsigned_abs t < 2 ^ 63 → unsigned_abs u < 2 ^ 63 → unsigned_abs v < 2 ^ 63
    → IsTrue (lt_z (in_128 (in_128 (in_64 s) *ℤ in_128 (in_64 t))) (in_128 (in_128 (in_64 u) *ℤ in_128 (in_64 v)))) ↔ (pos 0 <ℤ ((u *ℤ v) -ℤ (s *ℤ t)))
products_compared s t u v hs ht hu hv = rw (wide_product_held s t hs ht, wide_product_held u v hu hv) (less_is (s *ℤ t) (u *ℤ v))

-- the test of their width
module _ (x : ℤ) (m : ℕ) (within : unsigned_abs x ≤ 2 ^ 54) (is : m ≡ of_z w64 (in_64 (in_64 x +ℤ pos (2 ^ 31)))) where
  raised_fits : m < 2 ^ 32 → Fits x
  raised_fits below = record { least = omega (arith, ints); most = omega (arith, ints) }

  fits_raised : neg_ℤ (pos (2 ^ 31)) ≤ℤ x → x <ℤ pos (2 ^ 31) → m < 2 ^ 32
  fits_raised least most = omega (arith, ints)

module _ (x y : ℤ) (m n : ℕ) (hx : unsigned_abs x ≤ 2 ^ 54) (hy : unsigned_abs y ≤ 2 ^ 54) (ex : m ≡ of_z w64 (in_64 (in_64 x +ℤ pos (2 ^ 31)))) (ey : n ≡ of_z w64 (in_64 (in_64 y +ℤ pos (2 ^ 31)))) where
  pub width_is : (bit_or m n < 2 ^ 32) ↔ IsNarrow x y
  width_is = (
    λ below.
        let fx = raised_fits x m hx ex (let h = le_or_l m n in omega (arith, h, below)) in
        let fy = raised_fits y n hy ey (let h = le_or_r m n in omega (arith, h, below)) in
        record { left = fx.least; right = fx.most; down = fy.least; up = fy.most },
    λ narrow. or_lt 32 m n (fits_raised x m hx ex narrow.left narrow.right) (fits_raised y n hy ey narrow.down narrow.up),
  )

pub all_narrow : (k l m n : ℕ) {P Q R S : Type 0} → (k < 2 ^ 32) ↔ P → (l < 2 ^ 32) ↔ Q → (m < 2 ^ 32) ↔ R → (n < 2 ^ 32) ↔ S
    → IsTrue (nat_lt (bit_or (bit_or (bit_or k l) m) n) (2 ^ 32)) ↔ (P × Q × R × S)
all_narrow k l m n p q r s = (
  λ below.
      let all = told (bit_or (bit_or (bit_or k l) m) n) (2 ^ 32) below in
      let three : bit_or (bit_or k l) m < 2 ^ 32 = let h = le_or_l (bit_or (bit_or k l) m) n in omega (arith, h, all) in
      let two : bit_or k l < 2 ^ 32 = let h = le_or_l (bit_or k l) m in omega (arith, h, three) in (
        p.0 (let h = le_or_l k l in omega (arith, h, two)),
        q.0 (let h = le_or_r k l in omega (arith, h, two)),
        r.0 (let h = le_or_r (bit_or k l) m in omega (arith, h, three)),
        s.0 (let h = le_or_r (bit_or (bit_or k l) m) n in omega (arith, h, all)),
      ),
  λ all. tells (bit_or (bit_or (bit_or k l) m) n) (2 ^ 32) (or_lt 32 (bit_or (bit_or k l) m) n (or_lt 32 (bit_or k l) m (or_lt 32 k l (p.1 all.0) (q.1 all.1)) (r.1 all.2)) (s.1 all.3)),
)
