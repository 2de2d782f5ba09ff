-- A point p beyond a convex hull, and the half edges of the hull, which go round it clockwise: where the tangents from p meet the hull, and
-- that they do so once on each side.
use Rattle.std.proofs.Common.{◌≡◌, [], ◌∷◌, ℤ, pos, ◌+ℤ◌, ◌-ℤ◌, ◌*ℤ◌, ◌<ℤ◌, ◌≤ℤ◌, neg_ℤ, refl, ap, ◌∙◌, arith}
use Rattle.std.proofs.lemmas.Int.{by_lt_z}
use Rattle.std.proofs.Math.IntN.{*ℤ_comm, *ℤ-zero}
use Rattle.dcel_predicates.specs.Determinants.{orient2d_of}
use Rattle.dcel_predicates.specs.declared.point.Point.{Point}
use Rattle.dcel_predicates.proofs.Points.{orient2d-last_swapped}
use Rattle.dcel_predicates.proofs.Ring.{by_terms, minus, plus, times as by}
use Rattle.dcel_predicates.proofs.Signs.{both_negative, negative_times, ordered, square, times_negative, times_positive}
use Rattle.dcel_predicates.proofs.Terms.{orient, spot}
use Rattle.dcel_plane.specs.covering.Covering.{dot}
use Rattle.dcel_plane.proofs.covering.Along.{dot_in}
use Rattle.dcel_plane.proofs.covering.Products.{below_times, square_zero}

dot_square : (a c : Point) → pos 0 ≤ℤ dot a a c
dot_square a c = let x = square (a.x -ℤ c.x) in let y = square (a.y -ℤ c.y) in omega (arith, ordered, x, y)

-- a factor below 0 of a product that isn't
factor_not_above : (x y : ℤ) → x <ℤ pos 0 → pos 0 ≤ℤ (x *ℤ y) → y ≤ℤ pos 0
factor_not_above x y less product =
    by_lt_z (pos 0) y (λ more. absurd (let t = below_times x y less more in omega (arith, ordered, t, product))) (λ not. not)

-- The half edge from a to u has p on its left, the next one, from u to w, hasn't; neither has k. Where the hull isn't straight at u, the new
-- half edge from p to u hasn't k on its left.
module _ (a u w p k : Point) where
  turning : orient2d_of a u w *ℤ orient2d_of p u k ≡ (orient2d_of a u k *ℤ orient2d_of u w p) -ℤ (orient2d_of a u p *ℤ orient2d_of u w k)
  turning =
      by_terms (a.x ∷ a.y ∷ u.x ∷ u.y ∷ w.x ∷ w.y ∷ p.x ∷ p.y ∷ k.x ∷ k.y ∷ []) (by (orient (spot 0) (spot 1) (spot 2)) (orient (spot 3) (spot 1) (spot 4)))
      (minus (by (orient (spot 0) (spot 1) (spot 4)) (orient (spot 1) (spot 2) (spot 3))) (by (orient (spot 0) (spot 1) (spot 3)) (orient (spot 1) (spot 2) (spot 4)))) refl

  pub after_tangent : pos 0 <ℤ orient2d_of a u p → orient2d_of u w p ≤ℤ pos 0 → orient2d_of a u k ≤ℤ pos 0 → orient2d_of u w k ≤ℤ pos 0 → orient2d_of a u w <ℤ pos 0
      → orient2d_of p u k ≤ℤ pos 0
  after_tangent seen unseen first second bends =
      let f = both_negative (orient2d_of a u k) (orient2d_of u w p) first unseen in
      let g = times_negative (orient2d_of a u p) (orient2d_of u w k) (omega (arith, ordered, seen)) second in
      factor_not_above (orient2d_of a u w) (orient2d_of p u k) bends
      (compare (orient2d_of a u w *ℤ orient2d_of p u k) (orient2d_of a u k *ℤ orient2d_of u w p) (orient2d_of a u p *ℤ orient2d_of u w k) turning f g)
    where
      compare : (x y z : ℤ) → x ≡ y -ℤ z → pos 0 ≤ℤ y → z ≤ℤ pos 0 → pos 0 ≤ℤ x
      compare x y z is f g = omega (arith, ordered, is, f, g)

-- The same on the other side: from r to s unseen, from s to b seen, and the new half edge from s to p.
module _ (r s b p k : Point) where
  turning_before : orient2d_of r s b *ℤ orient2d_of s p k ≡ (orient2d_of r s p *ℤ orient2d_of s b k) -ℤ (orient2d_of r s k *ℤ orient2d_of s b p)
  turning_before =
      by_terms (r.x ∷ r.y ∷ s.x ∷ s.y ∷ b.x ∷ b.y ∷ p.x ∷ p.y ∷ k.x ∷ k.y ∷ []) (by (orient (spot 0) (spot 1) (spot 2)) (orient (spot 1) (spot 3) (spot 4)))
      (minus (by (orient (spot 0) (spot 1) (spot 3)) (orient (spot 1) (spot 2) (spot 4))) (by (orient (spot 0) (spot 1) (spot 4)) (orient (spot 1) (spot 2) (spot 3)))) refl

  pub before_tangent : orient2d_of r s p ≤ℤ pos 0 → pos 0 <ℤ orient2d_of s b p → orient2d_of r s k ≤ℤ pos 0 → orient2d_of s b k ≤ℤ pos 0 → orient2d_of r s b <ℤ pos 0
      → orient2d_of s p k ≤ℤ pos 0
  before_tangent unseen seen first second bends =
      let f = both_negative (orient2d_of r s p) (orient2d_of s b k) unseen second in
      let g = negative_times (orient2d_of r s k) (orient2d_of s b p) first (omega (arith, ordered, seen)) in
      factor_not_above (orient2d_of r s b) (orient2d_of s p k) bends
      (compare (orient2d_of r s b *ℤ orient2d_of s p k) (orient2d_of r s p *ℤ orient2d_of s b k) (orient2d_of r s k *ℤ orient2d_of s b p) turning_before f g)
    where
      compare : (x y z : ℤ) → x ≡ y -ℤ z → pos 0 ≤ℤ y → z ≤ℤ pos 0 → pos 0 ≤ℤ x
      compare x y z is f g = omega (arith, ordered, is, f, g)

-- p on the left of the half edge from a to u, which hasn't k there, and k on the line of p and u: u comes between them
module _ (a u p k : Point) (seen : pos 0 <ℤ orient2d_of a u p) (not : orient2d_of a u k ≤ℤ pos 0) (on : orient2d_of p u k ≡ pos 0) where
  along : orient2d_of a u p *ℤ dot p k u ≡ (orient2d_of a u k *ℤ dot p p u) +ℤ (orient2d_of p u k *ℤ (((u.x -ℤ a.x) *ℤ (p.x -ℤ u.x)) +ℤ ((u.y -ℤ a.y) *ℤ (p.y -ℤ u.y))))
  along =
      by_terms (a.x ∷ a.y ∷ u.x ∷ u.y ∷ p.x ∷ p.y ∷ k.x ∷ k.y ∷ []) (by (orient (spot 0) (spot 1) (spot 2)) (dot_in (spot 2) (spot 3) (spot 1)))
      (plus (by (orient (spot 0) (spot 1) (spot 3)) (dot_in (spot 2) (spot 2) (spot 1)))
      (by (orient (spot 2) (spot 1) (spot 3)) (plus (by (minus (spot 1).x (spot 0).x) (minus (spot 2).x (spot 1).x)) (by (minus (spot 1).y (spot 0).y) (minus (spot 2).y (spot 1).y))))) refl

  pub turned_away : dot p k u ≤ℤ pos 0
  turned_away =
      let g = ((u.x -ℤ a.x) *ℤ (p.x -ℤ u.x)) +ℤ ((u.y -ℤ a.y) *ℤ (p.y -ℤ u.y)) in
      let zero = ap (λ z. z *ℤ g) on ∙ *ℤ_comm (pos 0) g ∙ *ℤ-zero g in
      let f = negative_times (orient2d_of a u k) (dot p p u) not (dot_square p u) in
      not_above (orient2d_of a u p) (dot p k u) (orient2d_of a u k *ℤ dot p p u) (orient2d_of p u k *ℤ g) along zero f seen
    where
      not_above : (t d x y : ℤ) → t *ℤ d ≡ x +ℤ y → y ≡ pos 0 → x ≤ℤ pos 0 → pos 0 <ℤ t → d ≤ℤ pos 0
      not_above t d x y is zero less more = by_lt_z (pos 0) d (λ above. absurd (let m = times_positive t d more above in omega (arith, ordered, is, zero, less, m))) (λ is. is)

  apart-is : dot p u k ≡ dot k k u -ℤ dot p k u
  apart-is =
      by_terms (u.x ∷ u.y ∷ p.x ∷ p.y ∷ k.x ∷ k.y ∷ []) (dot_in (spot 1) (spot 0) (spot 2)) (minus (dot_in (spot 2) (spot 2) (spot 0)) (dot_in (spot 1) (spot 2) (spot 0))) refl

  -- so k isn't between p and u
  pub not_between : pos 0 ≤ℤ dot p u k
  not_between = let e = apart-is in let s = dot_square k u in let t = turned_away in omega (arith, ordered, e, s, t)

-- the same on the other side, where the half edge from s to b has p on its left
pub not_between_before : (s b p k : Point) → pos 0 <ℤ orient2d_of s b p → orient2d_of s b k ≤ℤ pos 0 → orient2d_of s p k ≡ pos 0 → pos 0 ≤ℤ dot s p k
not_between_before s b p k seen not on =
    let g = ((b.x -ℤ s.x) *ℤ (p.x -ℤ s.x)) +ℤ ((b.y -ℤ s.y) *ℤ (p.y -ℤ s.y)) in
    let zero = ap (λ z. z *ℤ g) on ∙ *ℤ_comm (pos 0) g ∙ *ℤ-zero g in
    let f = negative_times (orient2d_of s b k) (dot p p s) not (dot_square p s) in
    let d = not_above (orient2d_of s b p) (dot p k s) (orient2d_of s b k *ℤ dot p p s) (orient2d_of s p k *ℤ g) aside zero f seen in
    let q = dot_square k s in
    omega (arith, ordered, d, q, apart_is)
  where
    aside : orient2d_of s b p *ℤ dot p k s ≡ (orient2d_of s b k *ℤ dot p p s) -ℤ (orient2d_of s p k *ℤ (((b.x -ℤ s.x) *ℤ (p.x -ℤ s.x)) +ℤ ((b.y -ℤ s.y) *ℤ (p.y -ℤ s.y))))
    aside =
        by_terms (s.x ∷ s.y ∷ b.x ∷ b.y ∷ p.x ∷ p.y ∷ k.x ∷ k.y ∷ []) (by (orient (spot 0) (spot 1) (spot 2)) (dot_in (spot 2) (spot 3) (spot 0)))
        (minus (by (orient (spot 0) (spot 1) (spot 3)) (dot_in (spot 2) (spot 2) (spot 0)))
        (by (orient (spot 0) (spot 2) (spot 3)) (plus (by (minus (spot 1).x (spot 0).x) (minus (spot 2).x (spot 0).x)) (by (minus (spot 1).y (spot 0).y) (minus (spot 2).y (spot 0).y))))) refl

    apart_is : dot s p k ≡ dot k k s -ℤ dot p k s
    apart_is =
        by_terms (s.x ∷ s.y ∷ p.x ∷ p.y ∷ k.x ∷ k.y ∷ []) (dot_in (spot 0) (spot 1) (spot 2)) (minus (dot_in (spot 2) (spot 2) (spot 0)) (dot_in (spot 1) (spot 2) (spot 0))) refl

    not_above : (t d x y : ℤ) → t *ℤ d ≡ x -ℤ y → y ≡ pos 0 → x ≤ℤ pos 0 → pos 0 <ℤ t → d ≤ℤ pos 0
    not_above t d x y is zero less more = by_lt_z (pos 0) d (λ above. absurd (let m = times_positive t d more above in omega (arith, ordered, is, zero, less, m))) (λ is. is)

-- Two such places u and y, each of which the tangent of the other hasn't on its left, are one point.
pub one_tangent : (a u x y p : Point) → pos 0 <ℤ orient2d_of a u p → orient2d_of a u y ≤ℤ pos 0 → pos 0 <ℤ orient2d_of x y p → orient2d_of x y u ≤ℤ pos 0
    → orient2d_of p u y ≤ℤ pos 0 → orient2d_of p y u ≤ℤ pos 0 → (u.x ≡ y.x) × (u.y ≡ y.y)
one_tangent a u x y p seen_u not_u seen_y not_y first second =
    let e : orient2d_of p u y ≡ neg_ℤ (orient2d_of p y u) = swapped in
    let on_u : orient2d_of p u y ≡ pos 0 = omega (arith, ordered, e, first, second) in
    let on_y : orient2d_of p y u ≡ pos 0 = omega (arith, ordered, e, first, second) in
    let d = turned_away a u p y seen_u not_u on_u in
    let f = turned_away x y p u seen_y not_y on_y in
    let g = lengths in
    let sx = square (y.x -ℤ u.x) in
    let sy = square (y.y -ℤ u.y) in
    let zx = square_zero (y.x -ℤ u.x) (omega (arith, ordered, d, f, g, sx, sy)) in
    let zy = square_zero (y.y -ℤ u.y) (omega (arith, ordered, d, f, g, sx, sy)) in
    (omega (arith, ordered, zx), omega (arith, ordered, zy))
  where
    swapped : orient2d_of p u y ≡ neg_ℤ (orient2d_of p y u)
    swapped = orient2d-last_swapped p y u

    lengths : dot p y u +ℤ dot p u y ≡ ((y.x -ℤ u.x) *ℤ (y.x -ℤ u.x)) +ℤ ((y.y -ℤ u.y) *ℤ (y.y -ℤ u.y))
    lengths =
        by_terms (u.x ∷ u.y ∷ y.x ∷ y.y ∷ p.x ∷ p.y ∷ []) (plus (dot_in (spot 2) (spot 1) (spot 0)) (dot_in (spot 2) (spot 0) (spot 1)))
        (plus (by (minus (spot 1).x (spot 0).x) (minus (spot 1).x (spot 0).x)) (by (minus (spot 1).y (spot 0).y) (minus (spot 1).y (spot 0).y))) refl

-- The half edge from a to u has p on its left and neither x nor y: so p isn't between x and y.
module _ (a u x y p : Point) (seen : pos 0 <ℤ orient2d_of a u p) (at_x : orient2d_of a u x ≤ℤ pos 0) (at_y : orient2d_of a u y ≤ℤ pos 0) (on : orient2d_of x y p ≡ pos 0) where
  divided : orient2d_of a u p *ℤ dot y y x
      ≡ ((orient2d_of a u x *ℤ (dot y y p -ℤ dot x y p)) +ℤ (orient2d_of a u y *ℤ (dot x x p -ℤ dot x y p)))
      +ℤ (orient2d_of x y p *ℤ (((u.x -ℤ a.x) *ℤ (y.x -ℤ x.x)) +ℤ ((u.y -ℤ a.y) *ℤ (y.y -ℤ x.y))))
  divided =
      by_terms (a.x ∷ a.y ∷ u.x ∷ u.y ∷ x.x ∷ x.y ∷ y.x ∷ y.y ∷ p.x ∷ p.y ∷ []) (by (orient (spot 0) (spot 1) (spot 4)) (dot_in (spot 3) (spot 3) (spot 2)))
      (plus (plus (by (orient (spot 0) (spot 1) (spot 2)) (minus (dot_in (spot 3) (spot 3) (spot 4)) (dot_in (spot 2) (spot 3) (spot 4))))
      (by (orient (spot 0) (spot 1) (spot 3)) (minus (dot_in (spot 2) (spot 2) (spot 4)) (dot_in (spot 2) (spot 3) (spot 4)))))
      (by (orient (spot 2) (spot 3) (spot 4)) (plus (by (minus (spot 1).x (spot 0).x) (minus (spot 3).x (spot 2).x)) (by (minus (spot 1).y (spot 0).y) (minus (spot 3).y (spot 2).y))))) refl

  longer : dot y y x ≡ (dot y y p +ℤ dot x x p) -ℤ (dot x y p +ℤ dot x y p)
  longer =
      by_terms (x.x ∷ x.y ∷ y.x ∷ y.y ∷ p.x ∷ p.y ∷ []) (dot_in (spot 1) (spot 1) (spot 0))
      (minus (plus (dot_in (spot 1) (spot 1) (spot 2)) (dot_in (spot 0) (spot 0) (spot 2))) (plus (dot_in (spot 0) (spot 1) (spot 2)) (dot_in (spot 0) (spot 1) (spot 2)))) refl

  pub outside_edge : pos 0 ≤ℤ dot x y p
  outside_edge =
      by_lt_z (dot x y p) (pos 0)
      (λ less. absurd
      (let sy = dot_square y p in
      let sx = dot_square x p in
      let g = ((u.x -ℤ a.x) *ℤ (y.x -ℤ x.x)) +ℤ ((u.y -ℤ a.y) *ℤ (y.y -ℤ x.y)) in
      let zero = ap (λ z. z *ℤ g) on ∙ *ℤ_comm (pos 0) g ∙ *ℤ-zero g in
      let l = longer in
      let e = negative_times (orient2d_of a u x) (dot y y p -ℤ dot x y p) at_x (omega (arith, ordered, sy, less)) in
      let f = negative_times (orient2d_of a u y) (dot x x p -ℤ dot x y p) at_y (omega (arith, ordered, sx, less)) in
      let t = times_positive (orient2d_of a u p) (dot y y x) seen (omega (arith, ordered, l, sx, sy, less)) in
      compare (orient2d_of a u p *ℤ dot y y x) (orient2d_of a u x *ℤ (dot y y p -ℤ dot x y p)) (orient2d_of a u y *ℤ (dot x x p -ℤ dot x y p)) (orient2d_of x y p *ℤ g) divided e f zero t))
      (λ not. not)
    where
      compare : (t x y z : ℤ) → t ≡ (x +ℤ y) +ℤ z → x ≤ℤ pos 0 → y ≤ℤ pos 0 → z ≡ pos 0 → pos 0 <ℤ t → ⊥
      compare t x y z is e f zero more = omega (arith, ordered, is, e, f, zero, more)
