-- The part of a circle beyond a side of a triangle.
use Rattle.std.proofs.Common.{◌≡◌, [], ◌∷◌, ℤ, pos, ◌+ℤ◌, ◌-ℤ◌, ◌*ℤ◌, ◌<ℤ◌, ◌≤ℤ◌, neg_ℤ, refl, sym, ap, subst, ◌∙◌, arith}
use Rattle.std.proofs.lemmas.Int.{by_lt_z}
use Rattle.std.proofs.Math.IntN.{*ℤ_comm, *ℤ-zero}
use Rattle.dcel_predicates.specs.Determinants.{orient2d_of, incircle_of, squared_distance_of}
use Rattle.dcel_predicates.specs.declared.point.Point.{Point}
use Rattle.dcel_predicates.proofs.Points.{orient2d-first_swapped as orient_opposite}
use Rattle.dcel_predicates.proofs.Ring.{Term, by_terms, plus, minus, times as by}
use Rattle.dcel_predicates.proofs.Signs.{ordered, times, negative_times, times_positive, both_negative, square}
use Rattle.dcel_predicates.proofs.Terms.{spot, orient, incircle, lift}
use Rattle.dcel_plane.proofs.covering.Crossing.{crossing}
use Rattle.dcel_plane.proofs.covering.Products.{not_below_factor, square_positive}

-- w lies beyond the side from a to b, inside the circle or on it
pub record InCap (a b c w : Point) : Type 0 where
  pub beyond : orient2d_of a b w <ℤ pos 0
  pub within : pos 0 ≤ℤ incircle_of a b c w

abbrev dot_of : Point → Point → Point → ℤ
dot_of p q w = ((p.x -ℤ w.x) *ℤ (q.x -ℤ w.x)) +ℤ ((p.y -ℤ w.y) *ℤ (q.y -ℤ w.y))

pub lift_not_below : (p w : Point) → pos 0 ≤ℤ squared_distance_of p w
lift_not_below p w = let a = square (p.x -ℤ w.x) in let b = square (p.y -ℤ w.y) in omega (arith, ordered, a, b)

abbrev dot : Term
dot = plus (by (minus (spot 0).x (spot 2).x) (minus (spot 1).x (spot 2).x)) (by (minus (spot 0).y (spot 2).y) (minus (spot 1).y (spot 2).y))

lagrange : (p q w : Point) → squared_distance_of p w *ℤ squared_distance_of q w ≡ (orient2d_of p q w *ℤ orient2d_of p q w) +ℤ (dot_of p q w *ℤ dot_of p q w)
lagrange p q w =
    by_terms (p.x ∷ p.y ∷ q.x ∷ q.y ∷ w.x ∷ w.y ∷ []) (by (lift (spot 0) (spot 2)) (lift (spot 1) (spot 2)))
    (plus (by (orient (spot 0) (spot 1) (spot 2)) (orient (spot 0) (spot 1) (spot 2))) (by dot dot)) refl

-- so w is neither p nor q
lifts : (p q w : Point) → orient2d_of p q w <ℤ pos 0 → pos 0 <ℤ (squared_distance_of p w *ℤ squared_distance_of q w)
lifts p q w less =
    let a = square_positive (orient2d_of p q w) less in
    let b = square (dot_of p q w) in
    summed (squared_distance_of p w *ℤ squared_distance_of q w) (orient2d_of p q w *ℤ orient2d_of p q w) (dot_of p q w *ℤ dot_of p q w) (lagrange p q w) a b
  where
    summed : (x y z : ℤ) → x ≡ y +ℤ z → pos 0 <ℤ y → pos 0 ≤ℤ z → pos 0 <ℤ x
    summed x y z is more not = omega (arith, ordered)

product_first : (x y : ℤ) → pos 0 ≤ℤ x → pos 0 <ℤ (x *ℤ y) → pos 0 <ℤ x
product_first x y not more =
    by_lt_z (pos 0) x (λ is. is)
    (λ none. absurd (let e : x ≡ pos 0 = omega (arith, ordered) in
    let n = ap (λ z. z *ℤ y) e in let o = *ℤ_comm (pos 0) y in let t = *ℤ-zero y in omega (arith, ordered, n, o, t)))

lift_first : (p q w : Point) → orient2d_of p q w <ℤ pos 0 → pos 0 <ℤ squared_distance_of p w
lift_first p q w less = product_first (squared_distance_of p w) (squared_distance_of q w) (lift_not_below p w) (lifts p q w less)

lift_second : (p q w : Point) → orient2d_of p q w <ℤ pos 0 → pos 0 <ℤ squared_distance_of q w
lift_second p q w less =
    product_first (squared_distance_of q w) (squared_distance_of p w) (lift_not_below q w) (let t = lifts p q w less in omega (arith, ordered, *ℤ_comm (squared_distance_of p w) (squared_distance_of q w)))

-- one weight below 0, another not above it: the third point would be nothing
squeezed : (k l m t c u v : ℤ) → t ≡ k +ℤ l +ℤ m → pos 0 <ℤ t → m <ℤ pos 0 → l ≤ℤ pos 0 → pos 0 ≤ℤ c → pos 0 <ℤ u → pos 0 ≤ℤ v
    → (k *ℤ u) *ℤ t ≡ ((l +ℤ m) *ℤ c) -ℤ ((l *ℤ m) *ℤ v) → ⊥
squeezed k l m t c u v whole ht hm hl hc hu hv is =
    let hk : pos 0 <ℤ k = omega (arith, ordered) in
    let left = times_positive (k *ℤ u) t (times_positive k u hk hu) ht in
    let first = negative_times (l +ℤ m) c (omega (arith, ordered)) hc in
    let second = times (l *ℤ m) v (both_negative l m hl (omega (arith, ordered))) hv in
    compare ((k *ℤ u) *ℤ t) ((l +ℤ m) *ℤ c) ((l *ℤ m) *ℤ v) is left first second
  where
    compare : (x y z : ℤ) → x ≡ y -ℤ z → pos 0 <ℤ x → y ≤ℤ pos 0 → pos 0 ≤ℤ z → ⊥
    compare x y z is a b c = omega (arith, ordered)

module _ (p q r w : Point) where
  -- the weights of p, q and r as seen from w
  weights : orient2d_of p q r ≡ orient2d_of q r w +ℤ orient2d_of r p w +ℤ orient2d_of p q w
  weights =
      by_terms (p.x ∷ p.y ∷ q.x ∷ q.y ∷ r.x ∷ r.y ∷ w.x ∷ w.y ∷ []) (orient (spot 0) (spot 1) (spot 2))
      (plus (plus (orient (spot 1) (spot 2) (spot 3)) (orient (spot 2) (spot 0) (spot 3))) (orient (spot 0) (spot 1) (spot 3))) refl

  first_square : (orient2d_of q r w *ℤ squared_distance_of p w) *ℤ orient2d_of p q r
      ≡ ((orient2d_of r p w +ℤ orient2d_of p q w) *ℤ incircle_of p q r w) -ℤ ((orient2d_of r p w *ℤ orient2d_of p q w) *ℤ squared_distance_of q r)
  first_square =
      by_terms (p.x ∷ p.y ∷ q.x ∷ q.y ∷ r.x ∷ r.y ∷ w.x ∷ w.y ∷ [])
      (by (by (orient (spot 1) (spot 2) (spot 3)) (lift (spot 0) (spot 3))) (orient (spot 0) (spot 1) (spot 2)))
      (minus (by (plus (orient (spot 2) (spot 0) (spot 3)) (orient (spot 0) (spot 1) (spot 3))) (incircle (spot 0) (spot 1) (spot 2) (spot 3)))
      (by (by (orient (spot 2) (spot 0) (spot 3)) (orient (spot 0) (spot 1) (spot 3))) (lift (spot 1) (spot 2)))) refl

  second_square : (orient2d_of r p w *ℤ squared_distance_of q w) *ℤ orient2d_of p q r
      ≡ ((orient2d_of q r w +ℤ orient2d_of p q w) *ℤ incircle_of p q r w) -ℤ ((orient2d_of q r w *ℤ orient2d_of p q w) *ℤ squared_distance_of p r)
  second_square =
      by_terms (p.x ∷ p.y ∷ q.x ∷ q.y ∷ r.x ∷ r.y ∷ w.x ∷ w.y ∷ [])
      (by (by (orient (spot 2) (spot 0) (spot 3)) (lift (spot 1) (spot 3))) (orient (spot 0) (spot 1) (spot 2)))
      (minus (by (plus (orient (spot 1) (spot 2) (spot 3)) (orient (spot 0) (spot 1) (spot 3))) (incircle (spot 0) (spot 1) (spot 2) (spot 3)))
      (by (by (orient (spot 1) (spot 2) (spot 3)) (orient (spot 0) (spot 1) (spot 3))) (lift (spot 0) (spot 2)))) refl

  -- what lies in the part of a circle beyond one side is on the left of the other two
  module _ (turn : pos 0 <ℤ orient2d_of p q r) (cap : InCap p q r w) where
    pub left_of_third : pos 0 <ℤ orient2d_of r p w
    left_of_third =
        by_lt_z (pos 0) (orient2d_of r p w) (λ is. is)
        (λ not. absurd (squeezed (orient2d_of q r w) (orient2d_of r p w) (orient2d_of p q w) (orient2d_of p q r) (incircle_of p q r w) (squared_distance_of p w) (squared_distance_of q r)
        weights turn cap.beyond not cap.within (lift_first p q w cap.beyond) (lift_not_below q r) first_square))

    pub left_of_second : pos 0 <ℤ orient2d_of q r w
    left_of_second =
        by_lt_z (pos 0) (orient2d_of q r w) (λ is. is)
        (λ not. absurd (squeezed (orient2d_of r p w) (orient2d_of q r w) (orient2d_of p q w) (orient2d_of p q r) (incircle_of p q r w) (squared_distance_of q w) (squared_distance_of p r)
        (sums (orient2d_of p q r) (orient2d_of q r w) (orient2d_of r p w) (orient2d_of p q w) weights) turn cap.beyond not cap.within (lift_second p q w cap.beyond) (lift_not_below p r) second_square))
      where
        sums : (t k l m : ℤ) → t ≡ k +ℤ l +ℤ m → t ≡ l +ℤ k +ℤ m
        sums t k l m is = omega (arith, ordered)

-- The next side of the triangle beyond the side from a to b, with the corner d: the part of the circle beyond it is smaller where a, b, c and
-- d lie on one circle.
module _ (a b c d w : Point) where
  pub circle_turned : incircle_of a d b w ≡ incircle_of b a d w
  circle_turned =
      by_terms (a.x ∷ a.y ∷ b.x ∷ b.y ∷ d.x ∷ d.y ∷ w.x ∷ w.y ∷ []) (incircle (spot 0) (spot 2) (spot 1) (spot 3)) (incircle (spot 1) (spot 0) (spot 2) (spot 3)) refl

  pub circle_turned_back : incircle_of d b a w ≡ incircle_of b a d w
  circle_turned_back =
      by_terms (a.x ∷ a.y ∷ b.x ∷ b.y ∷ d.x ∷ d.y ∷ w.x ∷ w.y ∷ []) (incircle (spot 2) (spot 1) (spot 0) (spot 3)) (incircle (spot 1) (spot 0) (spot 2) (spot 3)) refl

  pub area_turned : orient2d_of a d b ≡ orient2d_of b a d
  area_turned = by_terms (a.x ∷ a.y ∷ b.x ∷ b.y ∷ d.x ∷ d.y ∷ []) (orient (spot 0) (spot 2) (spot 1)) (orient (spot 1) (spot 0) (spot 2)) refl

  pub area_turned_back : orient2d_of d b a ≡ orient2d_of b a d
  area_turned_back = by_terms (a.x ∷ a.y ∷ b.x ∷ b.y ∷ d.x ∷ d.y ∷ []) (orient (spot 2) (spot 1) (spot 0)) (orient (spot 1) (spot 0) (spot 2)) refl

  pub seen_from_other : orient2d_of a b w ≡ neg_ℤ (orient2d_of b a w)
  seen_from_other = orient_opposite b a w

  module _ (near : pos 0 <ℤ orient2d_of a b c) (far : pos 0 <ℤ orient2d_of b a d) (one_circle : incircle_of a b c d ≡ pos 0) where
    on_circle : pos 0 ≤ℤ incircle_of b a d w → pos 0 ≤ℤ incircle_of a b c w
    on_circle within =
        let left = times (incircle_of b a d w) (orient2d_of a b c) within (omega (arith, ordered)) in
        let none = ap (λ z. z *ℤ orient2d_of b a w) one_circle in
        let zero = *ℤ_comm (pos 0) (orient2d_of b a w) in
        let more = *ℤ-zero (orient2d_of b a w) in
        let is = crossing a b c d w in
        not_below_factor (incircle_of a b c w) (orient2d_of b a d) far
        (compare (incircle_of b a d w *ℤ orient2d_of a b c) (incircle_of a b c w *ℤ orient2d_of b a d) (incircle_of a b c d *ℤ orient2d_of b a w) is left (none ∙ zero ∙ more))
      where
        compare : (x y z : ℤ) → x ≡ y -ℤ z → pos 0 ≤ℤ x → z ≡ pos 0 → pos 0 ≤ℤ y
        compare x y z is more none = omega (arith, ordered)

    pub after_shrinks : InCap a d b w → InCap a b c w
    after_shrinks cap = record {
      beyond =
          let left = left_of_third a d b w (subst (λ z. pos 0 <ℤ z) (sym area_turned) far) cap in
          omega (arith, ordered, seen_from_other, left);
      within = on_circle (subst (λ z. pos 0 ≤ℤ z) circle_turned cap.within);
    }

    pub before_shrinks : InCap d b a w → InCap a b c w
    before_shrinks cap = record {
      beyond =
          let left = left_of_second d b a w (subst (λ z. pos 0 <ℤ z) (sym area_turned_back) far) cap in
          omega (arith, ordered, seen_from_other, left);
      within = on_circle (subst (λ z. pos 0 ≤ℤ z) circle_turned_back cap.within);
    }
