-- Circles through two points.
use Rattle.std.proofs.Common.{◌≡◌, ◌≢◌, ◌∙◌, [], ◌∷◌, ℤ, pos, ◌+ℤ◌, ◌-ℤ◌, ◌*ℤ◌, ◌<ℤ◌, ◌≤ℤ◌, neg_ℤ, refl, sym, ap, subst, arith}
use Rattle.std.proofs.Math.IntN.{zero-*ℤ}
use Rattle.std.proofs.lemmas.Int.{by_lt_z}
use Rattle.dcel_predicates.specs.declared.point.Point.{Point}
use Rattle.dcel_predicates.specs.Determinants.{orient2d_of, incircle_of, squared_distance_of}
use Rattle.dcel_predicates.proofs.Integers.{linear, mul_neg, neg_mul}
use Rattle.dcel_predicates.proofs.Points.{incircle-last_swapped, orient2d-turned}
use Rattle.dcel_predicates.proofs.Ring.{by_terms, plus, times as by}
use Rattle.dcel_predicates.proofs.Signs.{factor_positive, ordered, square, times, times_positive}
use Rattle.dcel_predicates.proofs.Terms.{incircle, orient, spot}

pub positive_is : {x y : ℤ} → x ≡ y → pos 0 <ℤ x → pos 0 <ℤ y
positive_is is more = subst (λ z. pos 0 <ℤ z) is more

-- three circles through a and d, those of v, of b and of the two with w
pencil : (a d v b w : Point)
    → orient2d_of a d b *ℤ incircle_of a d v w ≡ (orient2d_of a d v *ℤ incircle_of a d b w) +ℤ (orient2d_of a d w *ℤ incircle_of a d v b)
pencil a d v b w =
    by_terms (a.x ∷ a.y ∷ d.x ∷ d.y ∷ v.x ∷ v.y ∷ b.x ∷ b.y ∷ w.x ∷ w.y ∷ [])
    (by (orient (spot 0) (spot 1) (spot 3)) (incircle (spot 0) (spot 1) (spot 2) (spot 4)))
    (plus (by (orient (spot 0) (spot 1) (spot 2)) (incircle (spot 0) (spot 1) (spot 3) (spot 4)))
    (by (orient (spot 0) (spot 1) (spot 4)) (incircle (spot 0) (spot 1) (spot 2) (spot 3)))) refl

-- what lies inside the circle of v, on the side of a and d on which v and b lie, lies inside that of b too, if v does
pub nested : (a d v b w : Point) → pos 0 <ℤ orient2d_of a d b → pos 0 <ℤ orient2d_of a d v → pos 0 <ℤ orient2d_of a d w
    → pos 0 <ℤ incircle_of a d b v → pos 0 <ℤ incircle_of a d v w → pos 0 <ℤ incircle_of a d b w
nested a d v b w at_b at_v at_w inside further =
    let left = times_positive (orient2d_of a d b) (incircle_of a d v w) at_b further in
    let right = times_positive (orient2d_of a d w) (incircle_of a d b v) at_w inside in
    let opposite = mul_neg (orient2d_of a d w) (incircle_of a d b v) in
    let swapped = ap (λ z. orient2d_of a d w *ℤ z) (incircle-last_swapped a d b v) in
    factor_positive (orient2d_of a d v) (incircle_of a d b w) at_v (larger (pencil a d v b w) left right opposite swapped)
  where
    larger : {l r k s t : ℤ} → l ≡ r +ℤ k → pos 0 <ℤ l → pos 0 <ℤ s → t ≡ neg_ℤ s → k ≡ t → pos 0 <ℤ r
    larger {l} {r} {k} {s} {t} is more some opposite swapped = omega (arith, ordered, is, more, some, opposite, swapped)

-- the ends of a side of a triangle are apart
ends_apart : (a b c : Point) → pos 0 <ℤ orient2d_of a b c → a.x ≡ b.x → a.y ≢ b.y
ends_apart a b c more ex ey =
    let across : b.x -ℤ a.x ≡ pos 0 = omega (arith, linear, ex) in
    let up : b.y -ℤ a.y ≡ pos 0 = omega (arith, linear, ey) in
    let first = ap (λ z. z *ℤ (c.y -ℤ a.y)) across ∙ zero-*ℤ (c.y -ℤ a.y) in
    let second = ap (λ z. z *ℤ (c.x -ℤ a.x)) up ∙ zero-*ℤ (c.x -ℤ a.x) in
    omega (arith, ordered, more, first, second)

square_positive : (x : ℤ) → x ≢ pos 0 → pos 0 <ℤ (x *ℤ x)
square_positive x some =
    by_lt_z (pos 0) x (λ more. times_positive x x more more)
    (λ not. by_lt_z x (pos 0)
    (λ less. let t = times_positive (neg_ℤ x) (neg_ℤ x) (omega (arith, ordered, less)) (omega (arith, ordered, less)) in
    omega (arith, ordered, t, neg_mul x (neg_ℤ x), mul_neg x x))
    (λ nor. absurd (some (omega (arith, ordered, not, nor)))))

-- points that are apart have a distance
distance_positive : (p q : Point) → (p.x ≡ q.x → p.y ≢ q.y) → pos 0 <ℤ squared_distance_of p q
distance_positive p q apart =
    by_lt_z (pos 0) (squared_distance_of p q) (λ is. is)
    (λ not. absurd (apart (same p.x q.x (none p.x q.x (p.y -ℤ q.y) not)) (same p.y q.y (none_too p.y q.y (p.x -ℤ q.x) not))))
  where
    same : (x y : ℤ) → x -ℤ y ≡ pos 0 → x ≡ y
    same x y e = omega (arith, linear, e)

    zero_where : (x : ℤ) → (x *ℤ x) ≤ℤ pos 0 → x ≡ pos 0
    zero_where x none =
        by_lt_z x (pos 0) (λ less. absurd (let t = square_positive x (λ is. omega (arith, ordered, less, is)) in omega (arith, ordered, t, none)))
        (λ not. by_lt_z (pos 0) x (λ more. absurd (let t = times_positive x x more more in omega (arith, ordered, t, none))) (λ nor. omega (arith, ordered, not, nor)))

    none : (x y z : ℤ) → (((x -ℤ y) *ℤ (x -ℤ y)) +ℤ (z *ℤ z)) ≤ℤ pos 0 → x -ℤ y ≡ pos 0
    none x y z all = zero_where (x -ℤ y) (let q = square z in omega (arith, ordered, q, all))

    none_too : (x y z : ℤ) → ((z *ℤ z) +ℤ ((x -ℤ y) *ℤ (x -ℤ y))) ≤ℤ pos 0 → x -ℤ y ≡ pos 0
    none_too x y z all = zero_where (x -ℤ y) (let q = square z in omega (arith, ordered, q, all))

-- a point of a triangle, not on two of its sides, lies inside its circle
pub inside_its_circle : (a b c p : Point) → pos 0 ≤ℤ orient2d_of a b p → pos 0 <ℤ orient2d_of b c p → pos 0 <ℤ orient2d_of c a p → pos 0 <ℤ incircle_of a b c p
inside_its_circle a b c p on_first on_second on_third =
    let first : pos 0 <ℤ orient2d_of p b c = positive_is (orient2d-turned p b c) on_second in
    let second : pos 0 <ℤ orient2d_of p c a = positive_is (orient2d-turned p c a) on_third in
    let third : pos 0 ≤ℤ orient2d_of p a b = subst (λ z. pos 0 ≤ℤ z) (orient2d-turned p a b) on_first in
    let from_a = distance_positive a p (ends_apart a p c (positive_is (sym (orient2d-turned c a p)) on_third)) in
    let from_b = distance b in
    let from_c = distance c in
    sum_above (times_positive (squared_distance_of a p) (orient2d_of p b c) from_a first) (times (squared_distance_of b p) (orient2d_of p c a) from_b (not_below second)) (times (squared_distance_of c p) (orient2d_of p a b) from_c third)
  where
    not_below : {z : ℤ} → pos 0 <ℤ z → pos 0 ≤ℤ z
    not_below more = omega (arith, ordered, more)

    distance : (q : Point) → pos 0 ≤ℤ squared_distance_of q p
    distance q = let x = square (q.x -ℤ p.x) in let y = square (q.y -ℤ p.y) in omega (arith, ordered, x, y)

    sum_above : {x y z : ℤ} → pos 0 <ℤ x → pos 0 ≤ℤ y → pos 0 ≤ℤ z → pos 0 <ℤ (x +ℤ y +ℤ z)
    sum_above hx hy hz = omega (arith, ordered, hx, hy, hz)
