-- Where a segment crosses a part of another one, it crosses that.
use Rattle.std.proofs.Common.{◌≡◌, ◌⊎◌, inl, inr, ℕ, ℤ, pos, ◌+ℤ◌, ◌-ℤ◌, ◌*ℤ◌, ◌<ℤ◌, ◌≤ℤ◌, refl, subst, arith}
use Rattle.std.proofs.lemmas.Int.{by_lt_z}
use Rattle.dcel_predicates.specs.declared.point.Point.{Point}
use Rattle.dcel_predicates.specs.Determinants.{orient2d_of}
use Rattle.dcel_predicates.proofs.Signs.{both_negative, factor_positive, negative_times, ordered, times, times_negative, times_positive}
use Rattle.dcel_plane.specs.covering.Covering.{dot}
use Rattle.dcel_plane.proofs.covering.Along.{long, none_first}
use Rattle.dcel_plane.proofs.covering.Products.{times_below}
use Rattle.dcel_plane.specs.segments.Segments.{orient2d_by}
use Rattle.dcel_constrained.specs.Constraints.{LiesOnSegment}
use Rattle.dcel_constrained.specs.Loading.{AreOnBothSides, DoCross}
use Rattle.dcel_constrained.proofs.Between.{IsOn, factor_below, is_on, lies_far, side_placed, turn_by}

-- a mean of two numbers that aren't below 0, or not above
module _ (l t a b r : ℤ) (more : pos 0 <ℤ l) (above : pos 0 ≤ℤ t) (below : t ≤ℤ l) (is : l *ℤ r ≡ ((l -ℤ t) *ℤ a) +ℤ (t *ℤ b)) where
  mean_not_below : pos 0 ≤ℤ a → pos 0 ≤ℤ b → r <ℤ pos 0 → ⊥
  mean_not_below ha hb hr =
      let p = times (l -ℤ t) a (omega (arith, ordered, below)) ha in
      let q = times t b above hb in
      let z = times_below l r more hr in
      omega (arith, ordered, is, p, q, z)

  mean_not_above : a ≤ℤ pos 0 → b ≤ℤ pos 0 → pos 0 <ℤ r → ⊥
  mean_not_above ha hb hr =
      let p = times_negative (l -ℤ t) a (omega (arith, ordered, below)) ha in
      let q = times_negative t b above hb in
      let z = times_positive l r more hr in
      omega (arith, ordered, is, p, q, z)

-- signs of two numbers by those of their products with a third
by_products : (d x y : ℤ) → pos 0 <ℤ (d *ℤ x) → (d *ℤ y) <ℤ pos 0 → ((x <ℤ pos 0) × (pos 0 <ℤ y)) ⊎ ((pos 0 <ℤ x) × (y <ℤ pos 0))
by_products d x y px py =
    by_lt_z (pos 0) d (λ more. inr (factor_positive d x more px, factor_below d y more py))
    (λ not. by_lt_z d (pos 0)
    (λ less. inl (
      by_lt_z x (pos 0) (λ is. is) (λ nor. absurd (let t = negative_times d x (omega (arith, ordered, less)) (omega (arith, ordered, nor)) in omega (arith, ordered, t, px))),
      by_lt_z (pos 0) y (λ is. is) (λ nor. absurd (let t = both_negative d y (omega (arith, ordered, less)) (omega (arith, ordered, nor)) in omega (arith, ordered, t, py))),
    ))
    (λ nor. absurd (let t = none_first d x (omega (arith, ordered, not, nor)) in omega (arith, ordered, t, px))))

module _ (at : ℕ → Point) (v w x y o e : ℕ) (right : orient2d_by at v w o <ℤ pos 0) (left : pos 0 <ℤ orient2d_by at v w e) (near : pos 0 <ℤ orient2d_of (at o) (at e) (at v))
    (beyond : orient2d_of (at o) (at e) (at w) <ℤ pos 0) where
  -- the ends stand apart
  apart : orient2d_by at v w x ≡ orient2d_by at v w y → LiesOnSegment at x y o → LiesOnSegment at x y e → pos 0 <ℤ dot (at y) (at y) (at x)
  apart same (inr (inr lies)) on_e = lies_far at x y o lies
  apart same (inl is) (inr (inr lies)) = lies_far at x y e lies
  apart same (inr (inl is)) (inr (inr lies)) = lies_far at x y e lies
  apart same (inl is) (inl js) = absurd (let r = subst (λ (i : ℕ). orient2d_by at v w i <ℤ pos 0) is right in let l = subst (λ (i : ℕ). pos 0 <ℤ orient2d_by at v w i) js left in omega (arith, ordered, r, l))
  apart same (inl is) (inr (inl js)) = absurd (let r = subst (λ (i : ℕ). orient2d_by at v w i <ℤ pos 0) is right in let l = subst (λ (i : ℕ). pos 0 <ℤ orient2d_by at v w i) js left in omega (arith, ordered, r, l, same))
  apart same (inr (inl is)) (inl js) = absurd (let r = subst (λ (i : ℕ). orient2d_by at v w i <ℤ pos 0) is right in let l = subst (λ (i : ℕ). pos 0 <ℤ orient2d_by at v w i) js left in omega (arith, ordered, r, l, same))
  apart same (inr (inl is)) (inr (inl js)) = absurd (let r = subst (λ (i : ℕ). orient2d_by at v w i <ℤ pos 0) is right in let l = subst (λ (i : ℕ). pos 0 <ℤ orient2d_by at v w i) js left in omega (arith, ordered, r, l))

  module _ (on_o : LiesOnSegment at x y o) (on_e : LiesOnSegment at x y e) where
    are_far : pos 0 <ℤ dot (at y) (at y) (at x)
    are_far =
        by_lt_z (pos 0) (dot (at y) (at y) (at x)) (λ far. far)
        (λ not. absurd
        (let far = long (at y) (at x)
        (λ ex ey.
        (let same : orient2d_by at v w x ≡ orient2d_by at v w y = rw (ex, ey) refl in
        let far = apart same on_o on_e in
        omega (arith, ordered, far, not))) in
        omega (arith, ordered, far, not)))

    far : pos 0 <ℤ dot (at y) (at y) (at x)
    far = are_far

    is_o : IsOn (at x) (at y) (at o)
    is_o = is_on at x y o far on_o

    is_e : IsOn (at x) (at y) (at e)
    is_e = is_on at x y e far on_e

    -- a point of the segment is as far from the line from v to w as its ends are on the mean
    mean_at : (p : Point) → IsOn (at x) (at y) p → dot (at y) (at y) (at x) *ℤ orient2d_of (at v) (at w) p
        ≡ ((dot (at y) (at y) (at x) -ℤ dot p (at y) (at x)) *ℤ orient2d_by at v w x) +ℤ (dot p (at y) (at x) *ℤ orient2d_by at v w y)
    mean_at p is =
        let across = (((at w).x -ℤ (at v).x) *ℤ ((at y).x -ℤ (at x).x)) +ℤ (((at w).y -ℤ (at v).y) *ℤ ((at y).y -ℤ (at x).y)) in
        sums (dot (at y) (at y) (at x) *ℤ orient2d_of (at v) (at w) p)
        (((dot (at y) (at y) (at x) -ℤ dot p (at y) (at x)) *ℤ orient2d_by at v w x) +ℤ (dot p (at y) (at x) *ℤ orient2d_by at v w y))
        (orient2d_of (at x) (at y) p *ℤ across) (side_placed (at x) (at y) (at v) (at w) p) (none_first (orient2d_of (at x) (at y) p) across is.on)
      where
        sums : (t a b : ℤ) → t ≡ a +ℤ b → b ≡ pos 0 → t ≡ a
        sums t a b is none = omega (arith, ordered, is, none)

    not_both_left : pos 0 ≤ℤ orient2d_by at v w x → pos 0 ≤ℤ orient2d_by at v w y → ⊥
    not_both_left hx hy =
        mean_not_below (dot (at y) (at y) (at x)) (dot (at o) (at y) (at x)) (orient2d_by at v w x) (orient2d_by at v w y) (orient2d_by at v w o) far is_o.above is_o.below
        (mean_at (at o) is_o) hx hy right

    not_both_right : orient2d_by at v w x ≤ℤ pos 0 → orient2d_by at v w y ≤ℤ pos 0 → ⊥
    not_both_right hx hy =
        mean_not_above (dot (at y) (at y) (at x)) (dot (at e) (at y) (at x)) (orient2d_by at v w x) (orient2d_by at v w y) (orient2d_by at v w e) far is_e.above is_e.below
        (mean_at (at e) is_e) hx hy left

    ends_apart : AreOnBothSides (at v) (at w) (at x) (at y)
    ends_apart =
        by_lt_z (orient2d_by at v w x) (pos 0)
        (λ less. inl (
          less,
          by_lt_z (pos 0) (orient2d_by at v w y) (λ is. is) (λ not. absurd (not_both_right (omega (arith, ordered, less)) (omega (arith, ordered, not)))),
        ))
        (λ not. by_lt_z (orient2d_by at v w y) (pos 0)
        (λ less. inr (
          by_lt_z (pos 0) (orient2d_by at v w x) (λ is. is) (λ nor. absurd (not_both_right (omega (arith, ordered, nor)) (omega (arith, ordered, less)))),
          less,
        ))
        (λ nor. absurd (not_both_left (omega (arith, ordered, not)) (omega (arith, ordered, nor)))))

    turns : (k : Point) → dot (at y) (at y) (at x) *ℤ orient2d_of (at o) (at e) k ≡ (dot (at e) (at y) (at x) -ℤ dot (at o) (at y) (at x)) *ℤ orient2d_of (at x) (at y) k
    turns k = turn_by (at x) (at y) far (at o) (at e) k is_o.on is_e.on

    pub do_cross : DoCross (at v) (at w) (at x) (at y)
    do_cross = record {
      first = ends_apart;
      second =
          by_products (dot (at e) (at y) (at x) -ℤ dot (at o) (at y) (at x)) (orient2d_of (at x) (at y) (at v)) (orient2d_of (at x) (at y) (at w))
          (let t = turns (at v) in let p = times_positive (dot (at y) (at y) (at x)) (orient2d_of (at o) (at e) (at v)) far near in omega (arith, ordered, t, p))
          (let t = turns (at w) in let p = times_below (dot (at y) (at y) (at x)) (orient2d_of (at o) (at e) (at w)) far beyond in omega (arith, ordered, t, p));
    }
