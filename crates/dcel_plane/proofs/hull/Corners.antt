-- Where the outer face comes from a half edge that has a point on its left to one that hasn't: if that corner is straight it turns back.
use Rattle.std.proofs.Common.{◌≡◌, ◌⊎◌, inl, inr, ℕ, [], ◌∷◌, ℤ, pos, ◌+ℤ◌, ◌-ℤ◌, ◌*ℤ◌, ◌<ℤ◌, ◌≤ℤ◌, refl, ap, subst, ◌∙◌, arith}
use Rattle.std.proofs.lemmas.Int.{by_lt_z}
use Rattle.std.proofs.Math.IntN.{*ℤ_comm, *ℤ-zero}
use Rattle.dcel_predicates.specs.Determinants.{orient2d_of}
use Rattle.dcel_predicates.specs.declared.point.Point.{Point}
use Rattle.dcel_predicates.proofs.Ring.{Term, by_terms, minus, plus, times as by}
use Rattle.dcel_predicates.proofs.Signs.{negative_times, ordered, square, times_negative, times_positive}
use Rattle.dcel_predicates.proofs.Terms.{Spot, orient, spot}
use Rattle.dcel_maps.specs.Maps.{By, Reaches}
use Rattle.dcel_maps.specs.Maps.Reaches.{go, here}
use Rattle.dcel_plane.specs.covering.Covering.{dot}
use Rattle.dcel_plane.proofs.covering.Along.{dot_in}
use Rattle.dcel_plane.proofs.covering.Products.{square_zero}
use Rattle.dcel_plane.specs.hull.Straight.{dot_of_steps}

-- along a walk from an item with P to one without there is one with P whose next one is without
pub last_with : (next : ℕ → ℕ) (P : ℕ → Type 0) → ((h : ℕ) → P h ⊎ (¬ P h)) → (h k : ℕ) → Reaches (By next) h k → P h → ¬ P k
    → (i : ℕ) × P i × (¬ P (next i)) × Reaches (By next) h i
last_with next P decide h k here is not = absurd (not is)
last_with next P decide h k (go {y = y} step rest) is not = elim (decide y) [
  | inl with_y ↦ (let found = last_with next P decide y k rest with_y not in (found.0, found.1, found.2, go step found.3))
  | inr without ↦ (h, is, (λ on. without (subst P step on)), here)
]

-- `dot_of_steps` as a term
abbrev beyond_in : Spot → Spot → Spot → Term
beyond_in x y z = plus (by (minus y.x x.x) (minus z.x y.x)) (by (minus y.y x.y) (minus z.y y.y))

-- A straight corner at a tangent: the hull turns back, so it is a line.
module _ (x y z p : Point) (straight : orient2d_of x y z ≡ pos 0) where
  pub slope : dot y y x *ℤ orient2d_of y z p ≡ (dot_of_steps x y z *ℤ orient2d_of x y p) -ℤ (orient2d_of x y z *ℤ (((y.x -ℤ x.x) *ℤ (p.x -ℤ y.x)) +ℤ ((y.y -ℤ x.y) *ℤ (p.y -ℤ y.y))))
  slope =
      by_terms (x.x ∷ x.y ∷ y.x ∷ y.y ∷ z.x ∷ z.y ∷ p.x ∷ p.y ∷ []) (by (dot_in (spot 1) (spot 1) (spot 0)) (orient (spot 1) (spot 2) (spot 3)))
      (minus (by (beyond_in (spot 0) (spot 1) (spot 2)) (orient (spot 0) (spot 1) (spot 3)))
      (by (orient (spot 0) (spot 1) (spot 2)) (plus (by (minus (spot 1).x (spot 0).x) (minus (spot 3).x (spot 1).x)) (by (minus (spot 1).y (spot 0).y) (minus (spot 3).y (spot 1).y))))) refl

  slope_before : dot z z y *ℤ orient2d_of x y p ≡ (dot_of_steps x y z *ℤ orient2d_of y z p) +ℤ (orient2d_of x y z *ℤ (((z.x -ℤ y.x) *ℤ (p.x -ℤ y.x)) +ℤ ((z.y -ℤ y.y) *ℤ (p.y -ℤ y.y))))
  slope_before =
      by_terms (x.x ∷ x.y ∷ y.x ∷ y.y ∷ z.x ∷ z.y ∷ p.x ∷ p.y ∷ []) (by (dot_in (spot 2) (spot 2) (spot 1)) (orient (spot 0) (spot 1) (spot 3)))
      (plus (by (beyond_in (spot 0) (spot 1) (spot 2)) (orient (spot 1) (spot 2) (spot 3)))
      (by (orient (spot 0) (spot 1) (spot 2)) (plus (by (minus (spot 2).x (spot 1).x) (minus (spot 3).x (spot 1).x)) (by (minus (spot 2).y (spot 1).y) (minus (spot 3).y (spot 1).y))))) refl

  balance : (dot y z x *ℤ dot z z y) -ℤ (dot_of_steps x y z *ℤ dot x y z) ≡ orient2d_of x y z *ℤ orient2d_of x y z
  balance =
      by_terms (x.x ∷ x.y ∷ y.x ∷ y.y ∷ z.x ∷ z.y ∷ [])
      (minus (by (dot_in (spot 1) (spot 2) (spot 0)) (dot_in (spot 2) (spot 2) (spot 1))) (by (beyond_in (spot 0) (spot 1) (spot 2)) (dot_in (spot 0) (spot 1) (spot 2))))
      (by (orient (spot 0) (spot 1) (spot 2)) (orient (spot 0) (spot 1) (spot 2))) refl

  balance_back : (dot x y z *ℤ dot y y x) -ℤ (dot_of_steps x y z *ℤ dot y z x) ≡ orient2d_of x y z *ℤ orient2d_of x y z
  balance_back =
      by_terms (x.x ∷ x.y ∷ y.x ∷ y.y ∷ z.x ∷ z.y ∷ [])
      (minus (by (dot_in (spot 0) (spot 1) (spot 2)) (dot_in (spot 1) (spot 1) (spot 0))) (by (beyond_in (spot 0) (spot 1) (spot 2)) (dot_in (spot 1) (spot 2) (spot 0))))
      (by (orient (spot 0) (spot 1) (spot 2)) (orient (spot 0) (spot 1) (spot 2))) refl

  whole : dot y z x +ℤ dot x y z ≡ ((z.x -ℤ x.x) *ℤ (z.x -ℤ x.x)) +ℤ ((z.y -ℤ x.y) *ℤ (z.y -ℤ x.y))
  whole =
      by_terms (x.x ∷ x.y ∷ y.x ∷ y.y ∷ z.x ∷ z.y ∷ []) (plus (dot_in (spot 1) (spot 2) (spot 0)) (dot_in (spot 0) (spot 1) (spot 2)))
      (plus (by (minus (spot 2).x (spot 0).x) (minus (spot 2).x (spot 0).x)) (by (minus (spot 2).y (spot 0).y) (minus (spot 2).y (spot 0).y))) refl

  pub back_from : dot_of_steps x y z ≤ℤ pos 0 → pos 0 <ℤ dot y y x → pos 0 <ℤ dot z z y → pos 0 ≤ℤ dot y z x → pos 0 ≤ℤ dot x y z → (z.x ≡ x.x) × (z.y ≡ x.y)
  back_from f long long_too first second =
      let zero = ap (λ i. i *ℤ orient2d_of x y z) straight ∙ *ℤ_comm (pos 0) (orient2d_of x y z) ∙ *ℤ-zero (orient2d_of x y z) in
      let none = nothing (dot y z x) (dot z z y) (dot_of_steps x y z) (dot x y z) (balance ∙ zero) long_too first second f in
      let none_too = nothing (dot x y z) (dot y y x) (dot_of_steps x y z) (dot y z x) (balance_back ∙ zero) long second first f in
      let w = whole in
      let sx = square (z.x -ℤ x.x) in
      let sy = square (z.y -ℤ x.y) in
      let zx = square_zero (z.x -ℤ x.x) (omega (arith, ordered, none, none_too, w, sx, sy)) in
      let zy = square_zero (z.y -ℤ x.y) (omega (arith, ordered, none, none_too, w, sx, sy)) in
      (omega (arith, ordered, zx), omega (arith, ordered, zy))
    where
      nothing : (d w c e : ℤ) → (d *ℤ w) -ℤ (c *ℤ e) ≡ pos 0 → pos 0 <ℤ w → pos 0 ≤ℤ d → pos 0 ≤ℤ e → c ≤ℤ pos 0 → d ≡ pos 0
      nothing d w c e is hw hd he hc =
          by_lt_z (pos 0) d
          (λ more. absurd (let t = times_positive d w more hw in let n = negative_times c e hc he in omega (arith, ordered, is, t, n))) (λ not. omega (arith, ordered, not, hd))

  module _ (seen : pos 0 <ℤ orient2d_of x y p) (unseen : orient2d_of y z p ≤ℤ pos 0) where
    pub turns_back : pos 0 <ℤ dot y y x → dot_of_steps x y z ≤ℤ pos 0
    turns_back long =
        let g = ((y.x -ℤ x.x) *ℤ (p.x -ℤ y.x)) +ℤ ((y.y -ℤ x.y) *ℤ (p.y -ℤ y.y)) in
        let zero = ap (λ i. i *ℤ g) straight ∙ *ℤ_comm (pos 0) g ∙ *ℤ-zero g in
        let less = times_negative (dot y y x) (orient2d_of y z p) (omega (arith, ordered, long)) unseen in
        by_lt_z (pos 0) (dot_of_steps x y z)
        (λ more. absurd
        (let t = times_positive (dot_of_steps x y z) (orient2d_of x y p) more seen in
        compare (dot y y x *ℤ orient2d_of y z p) (dot_of_steps x y z *ℤ orient2d_of x y p) (orient2d_of x y z *ℤ g) slope zero less t))
        (λ not. not)
      where
        compare : (k l m : ℤ) → k ≡ l -ℤ m → m ≡ pos 0 → k ≤ℤ pos 0 → pos 0 <ℤ l → ⊥
        compare k l m is zero less more = omega (arith, ordered, is, zero, less, more)

    pub back_at_start : pos 0 <ℤ dot y y x → pos 0 <ℤ dot z z y → pos 0 ≤ℤ dot y z x → pos 0 ≤ℤ dot x y z → (z.x ≡ x.x) × (z.y ≡ x.y)
    back_at_start long long_too first second = back_from (turns_back long) long long_too first second

  -- the other way round
  module _ (unseen : orient2d_of x y p ≤ℤ pos 0) (seen : pos 0 <ℤ orient2d_of y z p) where
    turns_back_before : pos 0 <ℤ dot z z y → dot_of_steps x y z ≤ℤ pos 0
    turns_back_before long =
        let g = ((z.x -ℤ y.x) *ℤ (p.x -ℤ y.x)) +ℤ ((z.y -ℤ y.y) *ℤ (p.y -ℤ y.y)) in
        let zero = ap (λ i. i *ℤ g) straight ∙ *ℤ_comm (pos 0) g ∙ *ℤ-zero g in
        let less = times_negative (dot z z y) (orient2d_of x y p) (omega (arith, ordered, long)) unseen in
        by_lt_z (pos 0) (dot_of_steps x y z)
        (λ more. absurd
        (let t = times_positive (dot_of_steps x y z) (orient2d_of y z p) more seen in
        compare_before (dot z z y *ℤ orient2d_of x y p) (dot_of_steps x y z *ℤ orient2d_of y z p) (orient2d_of x y z *ℤ g) slope_before zero less t))
        (λ not. not)
      where
        compare_before : (k l m : ℤ) → k ≡ l +ℤ m → m ≡ pos 0 → k ≤ℤ pos 0 → pos 0 <ℤ l → ⊥
        compare_before k l m is zero less more = omega (arith, ordered, is, zero, less, more)

    pub back_at_end : pos 0 <ℤ dot y y x → pos 0 <ℤ dot z z y → pos 0 ≤ℤ dot y z x → pos 0 ≤ℤ dot x y z → (z.x ≡ x.x) × (z.y ≡ x.y)
    back_at_end long long_too first second = back_from (turns_back_before long_too) long long_too first second
