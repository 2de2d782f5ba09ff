-- Points and their offsets from a segment.
use Rattle.std.proofs.Common.{◌≡◌, [], ◌∷◌, ℕ, ℤ, pos, ◌+ℤ◌, ◌-ℤ◌, ◌*ℤ◌, ◌<ℤ◌, ◌≤ℤ◌, refl, sym, ap, ◌∙◌, subst, arith}
use Rattle.std.proofs.Math.IntN.{*ℤ_comm, *ℤ-zero}
use Rattle.std.proofs.lemmas.Int.{by_lt_z}
use Rattle.dcel_predicates.specs.declared.point.Point.{Point}
use Rattle.dcel_predicates.specs.Determinants.{orient2d_of}
use Rattle.dcel_predicates.proofs.Points.{orient2d-first_swapped, orient2d-last_swapped, orient2d-turned}
use Rattle.dcel_predicates.proofs.Signs.{both_negative, factor_positive, ordered, square, times, times_negative, times_positive}
use Rattle.dcel_plane.specs.covering.Covering.{dot}
use Rattle.dcel_plane.proofs.covering.Products.{below_times, both_below, times_below}
use Rattle.dcel_predicates.proofs.Ring.{Term, by_terms, minus, num, plus, times as by}
use Rattle.dcel_predicates.proofs.Terms.{orient, spot}
use Rattle.dcel_plane.proofs.covering.Inside.{on_end, on_start}
use Rattle.dcel_plane.proofs.covering.Along.{dot_in}

-- balances of products
weighs : (a t b c d f : ℤ) → a *ℤ t ≡ (b *ℤ c) +ℤ (d *ℤ f) → pos 0 <ℤ a → pos 0 <ℤ b → pos 0 <ℤ c → pos 0 ≤ℤ d → pos 0 ≤ℤ f → pos 0 <ℤ t
weighs a t b c d f is ha hb hc hd hf =
    let p = times_positive b c hb hc in
    let q = times d f hd hf in
    factor_positive a t ha (omega (arith, ordered, is, p, q))

weighs_second : (a t b c d f : ℤ) → a *ℤ t ≡ (b *ℤ c) +ℤ (d *ℤ f) → pos 0 <ℤ a → pos 0 ≤ℤ b → pos 0 ≤ℤ c → pos 0 <ℤ d → pos 0 <ℤ f → pos 0 <ℤ t
weighs_second a t b c d f is ha hb hc hd hf =
    let p = times b c hb hc in
    let q = times_positive d f hd hf in
    factor_positive a t ha (omega (arith, ordered, is, p, q))

weighs_down : (a t b c d f : ℤ) → a *ℤ t ≡ (b *ℤ c) +ℤ (d *ℤ f) → pos 0 <ℤ a → pos 0 <ℤ b → c <ℤ pos 0 → pos 0 <ℤ d → f <ℤ pos 0 → t <ℤ pos 0
weighs_down a t b c d f is ha hb hc hd hf =
    by_lt_z t (pos 0) (λ less. less)
    (λ not. absurd
    (let p = times_below b c hb hc in
    let q = times_below d f hd hf in
    let n = times a t (omega (arith, ordered, ha)) not in
    omega (arith, ordered, is, p, q, n)))

module _ (v w : Point) where
  abbrev off : Point → ℤ
  off p = orient2d_of v w p

  -- three directions from o, and how far they lead across the segment
  lever : (o p q z : Point) → (off p -ℤ off o) *ℤ orient2d_of o q z ≡ ((off q -ℤ off o) *ℤ orient2d_of o p z) +ℤ ((off z -ℤ off o) *ℤ orient2d_of o q p)
  lever o p q z =
      by_terms (v.x ∷ v.y ∷ w.x ∷ w.y ∷ o.x ∷ o.y ∷ p.x ∷ p.y ∷ q.x ∷ q.y ∷ z.x ∷ z.y ∷ [])
      (by (across 3) (orient (spot 2) (spot 4) (spot 5)))
      (plus (by (across 4) (orient (spot 2) (spot 3) (spot 5))) (by (across 5) (orient (spot 2) (spot 4) (spot 3)))) refl
    where
      across : ℕ → Term
      across n = minus (orient (spot 0) (spot 1) (spot n)) (orient (spot 0) (spot 1) (spot 2))

  -- the same from above
  lever_down : (o p q z : Point) → (off o -ℤ off p) *ℤ orient2d_of q o z ≡ ((off o -ℤ off q) *ℤ orient2d_of p o z) +ℤ ((off o -ℤ off z) *ℤ orient2d_of o p q)
  lever_down o p q z =
      by_terms (v.x ∷ v.y ∷ w.x ∷ w.y ∷ o.x ∷ o.y ∷ p.x ∷ p.y ∷ q.x ∷ q.y ∷ z.x ∷ z.y ∷ [])
      (by (across 3) (orient (spot 4) (spot 2) (spot 5)))
      (plus (by (across 4) (orient (spot 3) (spot 2) (spot 5))) (by (across 5) (orient (spot 2) (spot 3) (spot 4)))) refl
    where
      across : ℕ → Term
      across n = minus (orient (spot 0) (spot 1) (spot 2)) (orient (spot 0) (spot 1) (spot n))

  -- The edge from r to l, with the corner x on its left and y on its right. If both lie in the strip between its ends, the two triangles
  -- of the other diagonal turn left.
  module _ (x r l y : Point) (first : pos 0 <ℤ orient2d_of r l x) (second : pos 0 <ℤ orient2d_of l r y)
      (above : off r <ℤ off x) (below : off x <ℤ off l) (above_too : off r ≤ℤ off y) (below_too : off y ≤ℤ off l) where
    pub turns_at_left : pos 0 <ℤ orient2d_of x y l
    turns_at_left =
        let b = orient2d-turned x y l in
        subst (λ z. pos 0 <ℤ z) b
        (weighs_second (off l -ℤ off r) (orient2d_of y l x) (off l -ℤ off y) (orient2d_of r l x) (off l -ℤ off x) (orient2d_of l r y) (lever_down l r y x)
        (omega (arith, ordered, above, below)) (omega (arith, ordered, below_too)) (omega (arith, ordered, first)) (omega (arith, ordered, below)) second)

    pub turns_at_right : pos 0 <ℤ orient2d_of y x r
    turns_at_right =
        let a = orient2d-turned r y x in
        let b = orient2d-turned l r y in
        subst (λ z. pos 0 <ℤ z) (sym a)
        (weighs_second (off l -ℤ off r) (orient2d_of r y x) (off y -ℤ off r) (orient2d_of r l x) (off x -ℤ off r) (orient2d_of r y l) (lever r l y x)
        (omega (arith, ordered, above, below)) (omega (arith, ordered, above_too)) (omega (arith, ordered, first)) (omega (arith, ordered, above)) (subst (λ z. pos 0 <ℤ z) (sym b) second))

  -- From a half edge across the segment to another one with the same right end o, or the same left end: where z, a point on the segment's line, lies.
  pub ahead_at_right : (o p q z : Point) → off o <ℤ pos 0 → pos 0 <ℤ off p → pos 0 <ℤ off q → off z ≡ pos 0
      → pos 0 <ℤ orient2d_of o p z → pos 0 <ℤ orient2d_of o q p → pos 0 <ℤ orient2d_of o q z
  ahead_at_right o p q z ho hp hq hz one two =
      weighs (off p -ℤ off o) (orient2d_of o q z) (off q -ℤ off o) (orient2d_of o p z) (off z -ℤ off o) (orient2d_of o q p) (lever o p q z)
      (omega (arith, ordered, ho, hp)) (omega (arith, ordered, ho, hq)) one (omega (arith, ordered, ho, hz)) (omega (arith, ordered, two))

  pub behind_at_right : (o p q z : Point) → off o <ℤ pos 0 → pos 0 <ℤ off p → pos 0 <ℤ off q → off z ≡ pos 0
      → orient2d_of o p z <ℤ pos 0 → orient2d_of o q p <ℤ pos 0 → orient2d_of o q z <ℤ pos 0
  behind_at_right o p q z ho hp hq hz one two =
      weighs_down (off p -ℤ off o) (orient2d_of o q z) (off q -ℤ off o) (orient2d_of o p z) (off z -ℤ off o) (orient2d_of o q p) (lever o p q z)
      (omega (arith, ordered, ho, hp)) (omega (arith, ordered, ho, hq)) one (omega (arith, ordered, ho, hz)) two

  pub ahead_at_left : (o p q z : Point) → pos 0 <ℤ off o → off p <ℤ pos 0 → off q <ℤ pos 0 → off z ≡ pos 0
      → pos 0 <ℤ orient2d_of p o z → pos 0 <ℤ orient2d_of o p q → pos 0 <ℤ orient2d_of q o z
  ahead_at_left o p q z ho hp hq hz one two =
      weighs (off o -ℤ off p) (orient2d_of q o z) (off o -ℤ off q) (orient2d_of p o z) (off o -ℤ off z) (orient2d_of o p q) (lever_down o p q z)
      (omega (arith, ordered, ho, hp)) (omega (arith, ordered, ho, hq)) one (omega (arith, ordered, ho, hz)) (omega (arith, ordered, two))

  pub behind_at_left : (o p q z : Point) → pos 0 <ℤ off o → off p <ℤ pos 0 → off q <ℤ pos 0 → off z ≡ pos 0
      → orient2d_of p o z <ℤ pos 0 → orient2d_of o p q <ℤ pos 0 → orient2d_of q o z <ℤ pos 0
  behind_at_left o p q z ho hp hq hz one two =
      weighs_down (off o -ℤ off p) (orient2d_of q o z) (off o -ℤ off q) (orient2d_of p o z) (off o -ℤ off z) (orient2d_of o p q) (lever_down o p q z)
      (omega (arith, ordered, ho, hp)) (omega (arith, ordered, ho, hq)) one (omega (arith, ordered, ho, hz)) two

  -- how far along the segment a half edge crosses it, as a fraction
  pub further_at_right : (r l y z : Point) → off r <ℤ pos 0 → off z ≡ pos 0 → pos 0 <ℤ orient2d_of r y l
      → (orient2d_of r l z *ℤ (off y -ℤ off r)) <ℤ (orient2d_of r y z *ℤ (off l -ℤ off r))
  further_at_right r l y z hr hz left =
      let e = lever r l y z in
      let p = times_positive (off z -ℤ off r) (orient2d_of r y l) (omega (arith, ordered, hr, hz)) left in
      let c = *ℤ_comm (off l -ℤ off r) (orient2d_of r y z) in
      let d = *ℤ_comm (off y -ℤ off r) (orient2d_of r l z) in
      omega (arith, ordered, e, p, c, d)

  pub further_at_left : (r l y z : Point) → pos 0 <ℤ off l → off z ≡ pos 0 → pos 0 <ℤ orient2d_of l r y
      → (orient2d_of r l z *ℤ (off l -ℤ off y)) <ℤ (orient2d_of y l z *ℤ (off l -ℤ off r))
  further_at_left r l y z hl hz left =
      let e = lever_down l r y z in
      let p = times_positive (off l -ℤ off z) (orient2d_of l r y) (omega (arith, ordered, hl, hz)) left in
      let c = *ℤ_comm (off l -ℤ off r) (orient2d_of y l z) in
      let d = *ℤ_comm (off l -ℤ off y) (orient2d_of r l z) in
      omega (arith, ordered, e, p, c, d)

  -- a point on the segment's line in a triangle, by two of its sides
  inside_is : (a b c p : Point) → orient2d_of a b c *ℤ off p
      ≡ ((orient2d_of b c p *ℤ off a) +ℤ (orient2d_of c a p *ℤ off b)) +ℤ (orient2d_of a b p *ℤ off c)
  inside_is a b c p =
      by_terms (v.x ∷ v.y ∷ w.x ∷ w.y ∷ a.x ∷ a.y ∷ b.x ∷ b.y ∷ c.x ∷ c.y ∷ p.x ∷ p.y ∷ [])
      (by (orient (spot 2) (spot 3) (spot 4)) (orient (spot 0) (spot 1) (spot 5)))
      (plus (plus (by (orient (spot 3) (spot 4) (spot 5)) (orient (spot 0) (spot 1) (spot 2))) (by (orient (spot 4) (spot 2) (spot 5)) (orient (spot 0) (spot 1) (spot 3))))
      (by (orient (spot 2) (spot 3) (spot 5)) (orient (spot 0) (spot 1) (spot 4)))) refl

  pub inside_right : (l r y z : Point) → pos 0 <ℤ off l → off r <ℤ pos 0 → pos 0 <ℤ off y → off z ≡ pos 0
      → pos 0 ≤ℤ orient2d_of l r z → pos 0 ≤ℤ orient2d_of r y z → pos 0 ≤ℤ orient2d_of y l z
  inside_right l r y z hl hr hy hz one two =
      by_lt_z (orient2d_of y l z) (pos 0)
      (λ less. absurd
      (let e = inside_is l r y z in
      let n = ap (λ i. orient2d_of l r y *ℤ i) hz ∙ *ℤ-zero (orient2d_of l r y) in
      let p = times (orient2d_of r y z) (off l) two (omega (arith, ordered, hl)) in
      let q = times (orient2d_of l r z) (off y) one (omega (arith, ordered, hy)) in
      let s = both_below (orient2d_of y l z) (off r) less hr in
      omega (arith, ordered, e, n, p, q, s)))
      (λ not. not)

  pub inside_left : (l r y z : Point) → pos 0 <ℤ off l → off r <ℤ pos 0 → off y <ℤ pos 0 → off z ≡ pos 0
      → pos 0 ≤ℤ orient2d_of l r z → pos 0 ≤ℤ orient2d_of y l z → pos 0 ≤ℤ orient2d_of r y z
  inside_left l r y z hl hr hy hz one two =
      by_lt_z (orient2d_of r y z) (pos 0)
      (λ less. absurd
      (let e = inside_is l r y z in
      let n = ap (λ i. orient2d_of l r y *ℤ i) hz ∙ *ℤ-zero (orient2d_of l r y) in
      let p = below_times (orient2d_of r y z) (off l) less hl in
      let q = times_negative (orient2d_of y l z) (off r) two (omega (arith, ordered, hr)) in
      let s = times_negative (orient2d_of l r z) (off y) one (omega (arith, ordered, hy)) in
      omega (arith, ordered, e, n, p, q, s)))
      (λ not. not)

-- Directions from v, all on one side of the segment, in their order around v.
pub on_right_of : (v w a b c : Point) → orient2d_of v w a <ℤ pos 0 → orient2d_of v w b <ℤ pos 0 → orient2d_of v w c <ℤ pos 0
    → pos 0 <ℤ orient2d_of v a b → pos 0 <ℤ orient2d_of v b c → pos 0 <ℤ orient2d_of v a c
on_right_of v w a b c ha hb hc ab bc =
    by_lt_z (pos 0) (orient2d_of v a c) (λ is. is)
    (λ not. absurd
    (let e = lever v w v b a c in
    let z = on_end v w in
    let p = below_times (orient2d_of v w a -ℤ orient2d_of v w v) (orient2d_of v b c) (omega (arith, ordered, z, ha)) bc in
    let q = below_times (orient2d_of v w c -ℤ orient2d_of v w v) (orient2d_of v a b) (omega (arith, ordered, z, hc)) ab in
    let t = both_negative (orient2d_of v w b -ℤ orient2d_of v w v) (orient2d_of v a c) (omega (arith, ordered, z, hb)) not in
    omega (arith, ordered, e, p, q, t)))

pub on_left_of : (v w a b c : Point) → pos 0 <ℤ orient2d_of v w a → pos 0 <ℤ orient2d_of v w b → pos 0 <ℤ orient2d_of v w c
    → pos 0 <ℤ orient2d_of v b a → pos 0 <ℤ orient2d_of v c b → pos 0 <ℤ orient2d_of v c a
on_left_of v w a b c ha hb hc ba cb =
    let z = on_end v w in
    weighs (orient2d_of v w b -ℤ orient2d_of v w v) (orient2d_of v c a) (orient2d_of v w c -ℤ orient2d_of v w v) (orient2d_of v b a) (orient2d_of v w a -ℤ orient2d_of v w v) (orient2d_of v c b)
    (lever v w v b c a) (omega (arith, ordered, z, hb)) (omega (arith, ordered, z, hc)) ba (omega (arith, ordered, z, ha)) (omega (arith, ordered, cb))

-- seen from the segment's end: a, and then b, on its left, and r on its right
pub before_at_end : (v w a b r : Point) → pos 0 <ℤ orient2d_of v w a → pos 0 <ℤ orient2d_of v w b → orient2d_of v w r <ℤ pos 0
    → pos 0 <ℤ orient2d_of w a r → pos 0 ≤ℤ orient2d_of w a b → pos 0 <ℤ orient2d_of w b r
before_at_end v w a b r ha hb hr ar ab =
    let z = on_start v w in
    let e = lever v w w a b r in
    let x = orient2d-last_swapped w a b in
    let p = times_positive (orient2d_of v w b -ℤ orient2d_of v w w) (orient2d_of w a r) (omega (arith, ordered, z, hb)) ar in
    let q = both_negative (orient2d_of v w r -ℤ orient2d_of v w w) (orient2d_of w b a) (omega (arith, ordered, z, hr)) (omega (arith, ordered, x, ab)) in
    factor_positive (orient2d_of v w a -ℤ orient2d_of v w w) (orient2d_of w b r) (omega (arith, ordered, z, ha)) (omega (arith, ordered, e, p, q))

-- three points on one line
pub all_on_line : (v w a b : Point) → pos 0 <ℤ dot v v w → orient2d_of v w a ≡ pos 0 → orient2d_of v w b ≡ pos 0 → pos 0 <ℤ orient2d_of v a b → ⊥
all_on_line v w a b long ha hb turn =
    let p = ap (λ i. dot b w v *ℤ i) ha ∙ *ℤ-zero (dot b w v) in
    let q = ap (λ i. dot a w v *ℤ i) hb ∙ *ℤ-zero (dot a w v) in
    let t = times_positive (dot v v w) (orient2d_of v a b) long turn in
    let e = flattened in
    omega (arith, ordered, e, p, q, t)
  where
    flattened : dot v v w *ℤ orient2d_of v a b ≡ (dot a w v *ℤ orient2d_of v w b) -ℤ (dot b w v *ℤ orient2d_of v w a)
    flattened =
        by_terms (v.x ∷ v.y ∷ w.x ∷ w.y ∷ a.x ∷ a.y ∷ b.x ∷ b.y ∷ []) (by (dot_in (spot 0) (spot 0) (spot 1)) (orient (spot 0) (spot 2) (spot 3)))
        (minus (by (dot_in (spot 2) (spot 1) (spot 0)) (orient (spot 0) (spot 1) (spot 3))) (by (dot_in (spot 3) (spot 1) (spot 0)) (orient (spot 0) (spot 1) (spot 2)))) refl

-- Where the corner y beyond the edge from r to l lies on the segment's line, but not on the segment, its end w lies in the triangle.
module _ (v w r l y : Point) (on : orient2d_of v w y ≡ pos 0)
    (before : orient2d_of l r v ≤ℤ pos 0) (after : pos 0 <ℤ orient2d_of l r w) (beyond : pos 0 <ℤ orient2d_of l r y) (apart : pos 0 ≤ℤ dot v w y) where
  abbrev far : Point → ℤ
  far p = orient2d_of l r p

  abbrev long : ℤ
  long = ((y.x -ℤ v.x) *ℤ (y.x -ℤ v.x)) +ℤ ((y.y -ℤ v.y) *ℤ (y.y -ℤ v.y))

  abbrev along : ℤ
  along = ((r.x -ℤ l.x) *ℤ (y.x -ℤ v.x)) +ℤ ((r.y -ℤ l.y) *ℤ (y.y -ℤ v.y))

  abbrev base : ℤ
  base = ((r.x -ℤ l.x) *ℤ (r.x -ℤ l.x)) +ℤ ((r.y -ℤ l.y) *ℤ (r.y -ℤ l.y))

  balance : (far y -ℤ far v) *ℤ dot v w y ≡ (pos 0 -ℤ ((far w -ℤ far y) *ℤ long)) -ℤ (along *ℤ orient2d_of v w y)
  balance =
      by_terms (v.x ∷ v.y ∷ w.x ∷ w.y ∷ r.x ∷ r.y ∷ l.x ∷ l.y ∷ y.x ∷ y.y ∷ [])
      (by (minus (orient (spot 3) (spot 2) (spot 4)) (orient (spot 3) (spot 2) (spot 0)))
      (plus (by (minus (spot 0).x (spot 4).x) (minus (spot 1).x (spot 4).x)) (by (minus (spot 0).y (spot 4).y) (minus (spot 1).y (spot 4).y))))
      (minus
      (minus (num (pos 0))
      (by (minus (orient (spot 3) (spot 2) (spot 1)) (orient (spot 3) (spot 2) (spot 4)))
      (plus (by (minus (spot 4).x (spot 0).x) (minus (spot 4).x (spot 0).x)) (by (minus (spot 4).y (spot 0).y) (minus (spot 4).y (spot 0).y)))))
      (by (plus (by (minus (spot 2).x (spot 3).x) (minus (spot 4).x (spot 0).x)) (by (minus (spot 2).y (spot 3).y) (minus (spot 4).y (spot 0).y)))
      (orient (spot 0) (spot 1) (spot 4)))) refl

  lagrange : base *ℤ long ≡ ((far y -ℤ far v) *ℤ (far y -ℤ far v)) +ℤ (along *ℤ along)
  lagrange =
      let across = minus (orient (spot 3) (spot 2) (spot 4)) (orient (spot 3) (spot 2) (spot 0)) in
      let through = plus (by (minus (spot 2).x (spot 3).x) (minus (spot 4).x (spot 0).x)) (by (minus (spot 2).y (spot 3).y) (minus (spot 4).y (spot 0).y)) in
      by_terms (v.x ∷ v.y ∷ w.x ∷ w.y ∷ r.x ∷ r.y ∷ l.x ∷ l.y ∷ y.x ∷ y.y ∷ [])
      (by (plus (by (minus (spot 2).x (spot 3).x) (minus (spot 2).x (spot 3).x)) (by (minus (spot 2).y (spot 3).y) (minus (spot 2).y (spot 3).y)))
      (plus (by (minus (spot 4).x (spot 0).x) (minus (spot 4).x (spot 0).x)) (by (minus (spot 4).y (spot 0).y) (minus (spot 4).y (spot 0).y))))
      (plus (by across across) (by through through)) refl

  some_long : pos 0 <ℤ long
  some_long =
      by_lt_z (pos 0) long (λ is. is)
      (λ not. absurd
      (let a = times_positive (far y -ℤ far v) (far y -ℤ far v) (omega (arith, ordered, before, beyond)) (omega (arith, ordered, before, beyond)) in
      let b = square along in
      let c = square (r.x -ℤ l.x) in
      let d = square (r.y -ℤ l.y) in
      let e = times_negative base long (omega (arith, ordered, c, d)) not in
      let f = lagrange in
      omega (arith, ordered, a, b, e, f)))

  further : far w ≤ℤ far y
  further =
      by_lt_z (far y) (far w)
      (λ less. absurd
      (let a = times (far y -ℤ far v) (dot v w y) (omega (arith, ordered, before, beyond)) apart in
      let b = times_positive (far w -ℤ far y) long (omega (arith, ordered, less)) some_long in
      let c = ap (λ i. along *ℤ i) on ∙ *ℤ-zero along in
      let d = balance in
      omega (arith, ordered, a, b, c, d)))
      (λ not. not)

  flat : orient2d_of w v y ≡ pos 0
  flat = (let e = orient2d-first_swapped v w y in omega (arith, ordered, e, on))

  pub holds_right : orient2d_of v w r <ℤ pos 0 → pos 0 ≤ℤ orient2d_of r y w
  holds_right right =
      by_lt_z (orient2d_of r y w) (pos 0)
      (λ less. absurd
      (let e = lever l r w v r y in
      let n = ap (λ i. (far r -ℤ far w) *ℤ i) flat ∙ *ℤ-zero (far r -ℤ far w) in
      let t = orient2d-turned w r y in
      let u = orient2d-turned v w r in
      let f = further in
      let p = times_negative (far y -ℤ far w) (orient2d_of w r v) (omega (arith, ordered, f)) (omega (arith, ordered, u, right)) in
      let q = both_below (far v -ℤ far w) (orient2d_of w r y) (omega (arith, ordered, before, after)) (omega (arith, ordered, t, less)) in
      omega (arith, ordered, e, n, p, q)))
      (λ not. not)

  pub holds_left : pos 0 <ℤ orient2d_of v w l → pos 0 ≤ℤ orient2d_of y l w
  holds_left left =
      by_lt_z (orient2d_of y l w) (pos 0)
      (λ less. absurd
      (let e = lever l r w v l y in
      let n = ap (λ i. (far l -ℤ far w) *ℤ i) flat ∙ *ℤ-zero (far l -ℤ far w) in
      let t = orient2d-turned w l y in
      let t' = orient2d-first_swapped l y w in
      let u = orient2d-turned v w l in
      let f = further in
      let p = times (far y -ℤ far w) (orient2d_of w l v) (omega (arith, ordered, f)) (omega (arith, ordered, u, left)) in
      let q = below_times (far v -ℤ far w) (orient2d_of w l y) (omega (arith, ordered, before, after)) (omega (arith, ordered, t, t', less)) in
      omega (arith, ordered, e, n, p, q)))
      (λ not. not)
