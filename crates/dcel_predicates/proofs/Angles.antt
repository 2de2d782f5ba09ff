-- The circle test by the angles under which two points see an edge.
use Rattle.std.proofs.Common.{◌≡◌, ◌≢◌, ◌^◌, ◌≤◌, ◌↔◌, [], ◌∷◌, ℤ, pos, neg_ℤ, ◌+ℤ◌, ◌-ℤ◌, ◌*ℤ◌, ◌<ℤ◌, unsigned_abs, refl, ap, subst, ◌∙◌, arith}
use Rattle.std.proofs.Math.IntN.{zero-*ℤ}
use Rattle.std.proofs.lemmas.Int.{ints}
use Rattle.dcel_predicates.specs.declared.point.Point.{Point}
use Rattle.dcel_predicates.specs.Determinants.{orient2d_of, incircle_of}
use Rattle.dcel_predicates.specs.Steps.{cross_of, dot_of}
use Rattle.dcel_predicates.proofs.Integers.{linear, neg_mul}
use Rattle.dcel_predicates.proofs.Machine.{in_128, held_128}
use Rattle.dcel_predicates.proofs.Ring.{by_terms, minus, times}
use Rattle.dcel_predicates.proofs.Signs.{ordered}
use Rattle.dcel_predicates.proofs.Terms.{incircle, orient, scalar, spot}

-- the determinant as the difference of two products
across : (a b c d : Point)
    → (orient2d_of d a b *ℤ dot_of (a.x -ℤ c.x) (a.y -ℤ c.y) (b.x -ℤ c.x) (b.y -ℤ c.y)) -ℤ (orient2d_of c a b *ℤ dot_of (a.x -ℤ d.x) (a.y -ℤ d.y) (b.x -ℤ d.x) (b.y -ℤ d.y))
    ≡ incircle_of a b c d
across a b c d =
    by_terms (a.x ∷ a.y ∷ b.x ∷ b.y ∷ c.x ∷ c.y ∷ d.x ∷ d.y ∷ [])
    (minus (times (orient (spot 3) (spot 0) (spot 1)) (scalar (spot 0) (spot 1) (spot 2))) (times (orient (spot 2) (spot 0) (spot 1)) (scalar (spot 0) (spot 1) (spot 3))))
    (incircle (spot 0) (spot 1) (spot 2) (spot 3)) refl

-- the same by steps: p and q lead from c to a and to b, r and s from d; m and l are the sine and the cosine of the angle at d, k and n those of the one at c
pub told_across : (R : Type 0) (a b c d : Point) (px py qx qy rx ry sx sy m n k l : ℤ)
    → px ≡ a.x -ℤ c.x → py ≡ a.y -ℤ c.y → qx ≡ b.x -ℤ c.x → qy ≡ b.y -ℤ c.y → rx ≡ a.x -ℤ d.x → ry ≡ a.y -ℤ d.y → sx ≡ b.x -ℤ d.x → sy ≡ b.y -ℤ d.y
    → m ≡ cross_of rx ry sx sy → n ≡ dot_of px py qx qy → k ≡ cross_of px py qx qy → l ≡ dot_of rx ry sx sy
    → R ↔ (pos 0 <ℤ ((m *ℤ n) -ℤ (k *ℤ l))) → R ↔ (pos 0 <ℤ incircle_of a b c d)
told_across R a b c d px py qx qy rx ry sx sy m n k l epx epy eqx eqy erx ery esx esy em en ek el =
    subst (λ (z : ℤ). R ↔ (pos 0 <ℤ z)) (rw (em, en, ek, el, epx, epy, eqx, eqy, erx, ery, esx, esy) (across a b c d))

-- the ends of a side of a triangle are apart
ends_apart : (a b c : Point) → pos 0 <ℤ orient2d_of a b c → a.x ≡ b.x → a.y ≢ b.y
ends_apart a b c more ex ey =
    let first = ap (λ z. z *ℤ (c.y -ℤ a.y)) (level a.x b.x ex) in
    let second = ap (λ z. z *ℤ (c.x -ℤ a.x)) (level a.y b.y ey) in
    omega (arith, ordered, more, first, second, zero-*ℤ (c.y -ℤ a.y), zero-*ℤ (c.x -ℤ a.x))
  where
    level : (x y : ℤ) → x ≡ y → y -ℤ x ≡ pos 0
    level x y is = omega (arith, linear, is)

-- and seen from anywhere
pub steps_apart : (a b c d : Point) (px py qx qy : ℤ) → pos 0 <ℤ orient2d_of a b c → px ≡ a.x -ℤ d.x → py ≡ a.y -ℤ d.y → qx ≡ b.x -ℤ d.x → qy ≡ b.y -ℤ d.y
    → px ≡ qx → py ≢ qy
steps_apart a b c d px py qx qy more epx epy eqx eqy ex ey = ends_apart a b c more (back a.x b.x d.x px qx epx eqx ex) (back a.y b.y d.y py qy epy eqy ey)
  where
    back : (x y z p q : ℤ) → p ≡ x -ℤ z → q ≡ y -ℤ z → p ≡ q → x ≡ y
    back x y z p q ep eq is = omega (arith, linear, ep, eq, is)

-- wide angles, as they are compared
pub wide_exceeds : (R : Type 0) (n s t u v : ℤ) → unsigned_abs s ≤ 2 ^ 109 → unsigned_abs t ≤ 2 ^ 109 → unsigned_abs u ≤ 2 ^ 109 → unsigned_abs v ≤ 2 ^ 109
    → n ≡ (in_128 s *ℤ in_128 t) +ℤ (in_128 (pos 0 -ℤ in_128 u) *ℤ in_128 v) +ℤ (pos 0 *ℤ pos 0) → R ↔ (pos 0 <ℤ n) → R ↔ (pos 0 <ℤ ((s *ℤ t) -ℤ (u *ℤ v)))
wide_exceeds R n s t u v hs ht hu hv is = subst (λ (z : ℤ). R ↔ (pos 0 <ℤ z)) (is ∙ rw (held s hs, held t ht, turned, held v hv, neg_mul u v) (joined (s *ℤ t) (u *ℤ v)))
  where
    held : (z : ℤ) → unsigned_abs z ≤ 2 ^ 109 → in_128 z ≡ z
    held z h = held_128 z (omega (arith, h))

    turned : in_128 (pos 0 -ℤ in_128 u) ≡ neg_ℤ u
    turned = omega (arith, ints)

    joined : (a b : ℤ) → a +ℤ neg_ℤ b +ℤ (pos 0 *ℤ pos 0) ≡ a -ℤ b
    joined a b = omega (arith, ints)
