-- Where edges lead that turn right, one after the other.
use Rattle.std.proofs.Common.{◌≡◌, ◌⊎◌, inl, inr, [], ◌∷◌, ℤ, pos, ◌+ℤ◌, ◌-ℤ◌, ◌*ℤ◌, ◌<ℤ◌, ◌≤ℤ◌, refl, sym, ap, ◌∙◌, arith}
use Rattle.std.proofs.lemmas.Int.{by_lt_z}
use Rattle.std.proofs.Math.IntN.{*ℤ_comm, *ℤ-zero}
use Rattle.dcel_predicates.specs.declared.point.Point.{Point}
use Rattle.dcel_predicates.specs.Determinants.{orient2d_of}
use Rattle.dcel_predicates.proofs.Ring.{by_terms, minus, plus, times as by}
use Rattle.dcel_predicates.proofs.Signs.{both_negative, ordered, times, times_negative, times_positive}
use Rattle.dcel_predicates.proofs.Terms.{orient, orient_in, place, spot}
use Rattle.dcel_plane.specs.covering.Places.{Place, orient_at}
use Rattle.dcel_plane.specs.covering.Round.{IsRightOf}
use Rattle.dcel_plane.proofs.covering.Products.{below_times, both_below, times_below}
use Rattle.dcel_predicates.proofs.Integers.{mul_sub}

pub right_or_not : (a b : Point) → IsRightOf a b ⊎ (IsRightOf a b → ⊥)
right_or_not a b =
    by_lt_z a.x b.x (λ less. inl (inl less))
    (λ not. by_lt_z b.x a.x
    (λ more. inr (λ is. elim is [ inl less ↦ omega (arith, ordered, less, not) | inr same ↦ (let e = same.0 in omega (arith, ordered, e, more)) ]))
    (λ nor. by_lt_z a.y b.y (λ up. inl (inr (omega (arith, ordered, not, nor), up)))
    (λ down. inr (λ is. elim is [ inl less ↦ omega (arith, ordered, less, not) | inr same ↦ (let u = same.1 in omega (arith, ordered, u, down)) ]))))

pub right_itself : (a : Point) → IsRightOf a a → ⊥
right_itself a is = elim is [ inl less ↦ omega (arith, ordered, less) | inr same ↦ (let u = same.1 in omega (arith, ordered, u)) ]

pub right_along : (a b c : Point) → IsRightOf a b → IsRightOf b c → IsRightOf a c
right_along a b c (inl x) (inl y) = inl (omega (arith, ordered, x, y))
right_along a b c (inl x) (inr y) = inl (let e = y.0 in omega (arith, ordered, x, e))
right_along a b c (inr x) (inl y) = inl (let e = x.0 in omega (arith, ordered, e, y))
right_along a b c (inr x) (inr y) = inr (let e = x.0 in let f = y.0 in omega (arith, ordered, e, f), let e = x.1 in let f = y.1 in omega (arith, ordered, e, f))

-- not less far to the right
pub right_least : (a b : Point) → IsRightOf a b → a.x ≤ℤ b.x
right_least a b (inl x) = omega (arith, ordered, x)
right_least a b (inr x) = let e = x.0 in omega (arith, ordered, e)

-- two points of which none is to the right of the other
pub one_spot : (a b : Point) → (IsRightOf a b → ⊥) → (IsRightOf b a → ⊥) → (a.x ≡ b.x) × (a.y ≡ b.y)
one_spot a b not_on not_back =
    let x : a.x ≡ b.x = by_lt_z a.x b.x (λ less. absurd (not_on (inl less))) (λ p. by_lt_z b.x a.x (λ less. absurd (not_back (inl less))) (λ q. omega (arith, ordered, p, q))) in
    (x, by_lt_z a.y b.y (λ less. absurd (not_on (inr (x, less)))) (λ p. by_lt_z b.y a.y (λ less. absurd (not_back (inr (sym x, less)))) (λ q. omega (arith, ordered, p, q))))

none : (x y : ℤ) → x ≡ y → y -ℤ x ≡ pos 0
none x y is = omega (arith, ordered, is)

module _ (a b c : Point) (p : Place) where
  lever : (c.x -ℤ b.x) *ℤ orient_at a b p ≡ ((b.x -ℤ a.x) *ℤ orient_at b c p) +ℤ ((p.x -ℤ (p.w *ℤ b.x)) *ℤ orient2d_of a b c)
  lever =
      by_terms (a.x ∷ a.y ∷ b.x ∷ b.y ∷ c.x ∷ c.y ∷ p.x ∷ p.y ∷ p.w ∷ [])
      (by (minus (spot 2).x (spot 1).x) (orient_in (spot 0) (spot 1) (place 6)))
      (plus (by (minus (spot 1).x (spot 0).x) (orient_in (spot 1) (spot 2) (place 6)))
      (by (minus (place 6).x (by (place 6).w (spot 1).x)) (orient (spot 0) (spot 1) (spot 2)))) refl

module _ (a b c : Point) where
  -- straight up after that is a turn to the left
  steep : orient2d_of a b c ≡ ((b.x -ℤ a.x) *ℤ (c.y -ℤ b.y)) -ℤ ((b.y -ℤ a.y) *ℤ (c.x -ℤ b.x))
  steep =
      by_terms (a.x ∷ a.y ∷ b.x ∷ b.y ∷ c.x ∷ c.y ∷ []) (orient (spot 0) (spot 1) (spot 2))
      (minus (by (minus (spot 1).x (spot 0).x) (minus (spot 2).y (spot 1).y)) (by (minus (spot 1).y (spot 0).y) (minus (spot 2).x (spot 1).x))) refl

  not_up : orient2d_of a b c ≤ℤ pos 0 → a.x <ℤ b.x → b.x ≡ c.x → b.y <ℤ c.y → ⊥
  not_up turn wide same up =
      let t = times_positive (b.x -ℤ a.x) (c.y -ℤ b.y) (omega (arith, ordered, wide)) (omega (arith, ordered, up)) in
      let z = ap (λ k. (b.y -ℤ a.y) *ℤ k) (none b.x c.x same) ∙ *ℤ-zero (b.y -ℤ a.y) in
      let e = steep in
      omega (arith, ordered, t, z, e, turn)

module _ (a b c : Point) (p : Place) (turn : orient2d_of a b c ≤ℤ pos 0) where
  -- a place that is not left of the second edge, nor in columns before it, is not left of the first one
  pub back_step : IsRightOf a b → IsRightOf b c → orient_at b c p ≤ℤ pos 0 → (p.w *ℤ b.x) ≤ℤ p.x → (orient_at a b p ≤ℤ pos 0) × ((p.w *ℤ a.x) ≤ℤ p.x)
  back_step (inl wide) (inr up) below after = absurd (not_up a b c turn wide up.0 up.1)
  back_step (inl wide) (inl far) below after =
      let k = times_negative (b.x -ℤ a.x) (orient_at b c p) (omega (arith, ordered, wide)) below in
      let l = times_negative (p.x -ℤ (p.w *ℤ b.x)) (orient2d_of a b c) (omega (arith, ordered, after)) turn in
      let e = lever a b c p in
      let less = times_below p.w (a.x -ℤ b.x) p.above (omega (arith, ordered, wide)) in
      let d = mul_sub p.w a.x b.x in (
        by_lt_z (pos 0) (orient_at a b p)
            (λ more. absurd (let t = times_positive (c.x -ℤ b.x) (orient_at a b p) (omega (arith, ordered, far)) more in omega (arith, ordered, t, e, k, l))) (λ not. not),
        omega (arith, ordered, less, d, after),
      )
  back_step (inr up) _ below after =
      let e = ap (λ k. k *ℤ (p.y -ℤ (p.w *ℤ a.y))) (none a.x b.x up.0) ∙ *ℤ_comm (pos 0) (p.y -ℤ (p.w *ℤ a.y)) ∙ *ℤ-zero (p.y -ℤ (p.w *ℤ a.y)) in
      let same = ap (λ k. p.w *ℤ k) up.0 in
      let u = up.1 in
      let t = times (b.y -ℤ a.y) (p.x -ℤ (p.w *ℤ a.x)) (omega (arith, ordered, u)) (omega (arith, ordered, same, after)) in
      (omega (arith, ordered, e, t), omega (arith, ordered, same, after))

  -- a place that is not left of the first edge, nor in columns after it, is not left of the second one
  pub forth_step : a.x <ℤ b.x → IsRightOf b c → orient_at a b p ≤ℤ pos 0 → p.x ≤ℤ (p.w *ℤ b.x) → (b.x <ℤ c.x) × (orient_at b c p ≤ℤ pos 0) × (p.x ≤ℤ (p.w *ℤ c.x))
  forth_step wide (inr up) below before = absurd (not_up a b c turn wide up.0 up.1)
  forth_step wide (inl far) below before =
      let k = times_negative (c.x -ℤ b.x) (orient_at a b p) (omega (arith, ordered, far)) below in
      let l = both_negative (p.x -ℤ (p.w *ℤ b.x)) (orient2d_of a b c) (omega (arith, ordered, before)) turn in
      let e = lever a b c p in
      let less = times_below p.w (b.x -ℤ c.x) p.above (omega (arith, ordered, far)) in
      let d = mul_sub p.w b.x c.x in (
        far,
        by_lt_z (pos 0) (orient_at b c p)
            (λ more. absurd (let t = times_positive (b.x -ℤ a.x) (orient_at b c p) (omega (arith, ordered, wide)) more in omega (arith, ordered, t, e, k, l))) (λ not. not),
        omega (arith, ordered, less, d, before),
      )

-- Where a half edge leads to the right and another one from there to the left, and nothing is on the left of either, all is on one line.
module _ (v a b w : Point) where
  across : (a.x -ℤ v.x) *ℤ orient2d_of v b w ≡ ((b.x -ℤ v.x) *ℤ orient2d_of v a w) -ℤ ((w.x -ℤ v.x) *ℤ orient2d_of v a b)
  across =
      by_terms (v.x ∷ v.y ∷ a.x ∷ a.y ∷ b.x ∷ b.y ∷ w.x ∷ w.y ∷ []) (by (minus (spot 1).x (spot 0).x) (orient (spot 0) (spot 2) (spot 3)))
      (minus (by (minus (spot 2).x (spot 0).x) (orient (spot 0) (spot 1) (spot 3))) (by (minus (spot 3).x (spot 0).x) (orient (spot 0) (spot 1) (spot 2)))) refl

  up_across : (a.y -ℤ v.y) *ℤ orient2d_of v b w ≡ ((b.y -ℤ v.y) *ℤ orient2d_of v a w) -ℤ ((w.y -ℤ v.y) *ℤ orient2d_of v a b)
  up_across =
      by_terms (v.x ∷ v.y ∷ a.x ∷ a.y ∷ b.x ∷ b.y ∷ w.x ∷ w.y ∷ []) (by (minus (spot 1).y (spot 0).y) (orient (spot 0) (spot 2) (spot 3)))
      (minus (by (minus (spot 2).y (spot 0).y) (orient (spot 0) (spot 1) (spot 3))) (by (minus (spot 3).y (spot 0).y) (orient (spot 0) (spot 1) (spot 2)))) refl

  level : (k l o q z : ℤ) → k *ℤ q ≡ (l *ℤ o) -ℤ (z *ℤ orient2d_of v a b) → orient2d_of v a b ≡ pos 0 → pos 0 <ℤ k → l <ℤ pos 0 → o ≤ℤ pos 0 → q ≤ℤ pos 0 → o ≡ pos 0
  level k l o q z is flat hk hl ho hq =
      by_lt_z o (pos 0)
      (λ less. absurd (let s = both_below l o hl less in let t = times_negative k q (omega (arith, ordered, hk)) hq in let e = ap (λ y. z *ℤ y) flat ∙ *ℤ-zero z in omega (arith, ordered, is, s, t, e)))
      (λ not. omega (arith, ordered, ho, not))

  pub all_level : IsRightOf v a → IsRightOf b v → orient2d_of v a b ≡ pos 0 → orient2d_of v a w ≤ℤ pos 0 → orient2d_of v b w ≤ℤ pos 0 → orient2d_of v a w ≡ pos 0
  all_level (inl far) (inl near) flat not_a not_b =
      level (a.x -ℤ v.x) (b.x -ℤ v.x) (orient2d_of v a w) (orient2d_of v b w) (w.x -ℤ v.x) across flat (omega (arith, ordered, far)) (omega (arith, ordered, near)) not_a not_b
  all_level (inl far) (inr down) flat not_a not_b =
      let t = times_below (a.x -ℤ v.x) (b.y -ℤ v.y) (omega (arith, ordered, far)) (let d = down.1 in omega (arith, ordered, d)) in
      let z = ap (λ k. (a.y -ℤ v.y) *ℤ k) (none v.x b.x (sym down.0)) ∙ *ℤ-zero (a.y -ℤ v.y) in
      absurd (omega (arith, ordered, t, z, flat))
  all_level (inr up) (inl near) flat not_a not_b =
      let t = times_below (a.y -ℤ v.y) (b.x -ℤ v.x) (let u = up.1 in omega (arith, ordered, u)) (omega (arith, ordered, near)) in
      let z = ap (λ k. k *ℤ (b.y -ℤ v.y)) (none v.x a.x up.0) ∙ *ℤ_comm (pos 0) (b.y -ℤ v.y) ∙ *ℤ-zero (b.y -ℤ v.y) in
      absurd (omega (arith, ordered, t, z, flat))
  all_level (inr up) (inr down) flat not_a not_b =
      level (a.y -ℤ v.y) (b.y -ℤ v.y) (orient2d_of v a w) (orient2d_of v b w) (w.y -ℤ v.y) up_across flat (let u = up.1 in omega (arith, ordered, u)) (let d = down.1 in omega (arith, ordered, d)) not_a not_b

  straight : (k l o q z : ℤ) → k *ℤ q ≡ (l *ℤ o) -ℤ (z *ℤ orient2d_of v a b) → orient2d_of v a b ≡ pos 0 → pos 0 <ℤ k → pos 0 <ℤ l → o ≤ℤ pos 0 → pos 0 ≤ℤ q → o ≡ pos 0
  straight k l o q z is flat hk hl ho hq =
      by_lt_z o (pos 0)
      (λ less. absurd (let s = times_below l o hl less in let t = times k q (omega (arith, ordered, hk)) hq in let e = ap (λ y. z *ℤ y) flat ∙ *ℤ-zero z in omega (arith, ordered, is, s, t, e)))
      (λ not. omega (arith, ordered, ho, not))

  -- the same of two that lead to the right from there, with all between them
  pub all_straight : IsRightOf v a → IsRightOf v b → orient2d_of v a b ≡ pos 0 → orient2d_of v a w ≤ℤ pos 0 → pos 0 ≤ℤ orient2d_of v b w → orient2d_of v a w ≡ pos 0
  all_straight (inl far) (inl near) flat not_a not_b =
      straight (a.x -ℤ v.x) (b.x -ℤ v.x) (orient2d_of v a w) (orient2d_of v b w) (w.x -ℤ v.x) across flat (omega (arith, ordered, far)) (omega (arith, ordered, near)) not_a not_b
  all_straight (inl far) (inr up) flat not_a not_b =
      let t = times_positive (a.x -ℤ v.x) (b.y -ℤ v.y) (omega (arith, ordered, far)) (let d = up.1 in omega (arith, ordered, d)) in
      let z = ap (λ k. (a.y -ℤ v.y) *ℤ k) (none v.x b.x up.0) ∙ *ℤ-zero (a.y -ℤ v.y) in
      absurd (omega (arith, ordered, t, z, flat))
  all_straight (inr up) (inl near) flat not_a not_b =
      let t = times_positive (a.y -ℤ v.y) (b.x -ℤ v.x) (let u = up.1 in omega (arith, ordered, u)) (omega (arith, ordered, near)) in
      let z = ap (λ k. k *ℤ (b.y -ℤ v.y)) (none v.x a.x up.0) ∙ *ℤ_comm (pos 0) (b.y -ℤ v.y) ∙ *ℤ-zero (b.y -ℤ v.y) in
      absurd (omega (arith, ordered, t, z, flat))
  all_straight (inr up) (inr high) flat not_a not_b =
      straight (a.y -ℤ v.y) (b.y -ℤ v.y) (orient2d_of v a w) (orient2d_of v b w) (w.y -ℤ v.y) up_across flat (let u = up.1 in omega (arith, ordered, u)) (let d = high.1 in omega (arith, ordered, d)) not_a not_b

  -- and none of these leads to the left
  pub none_left : IsRightOf v a → IsRightOf v b → orient2d_of v a b <ℤ pos 0 → orient2d_of v a w ≤ℤ pos 0 → pos 0 ≤ℤ orient2d_of v b w → IsRightOf w v → ⊥
  none_left to_a to_b turn not_a not_b (inl less) =
      let ra = right_least v a to_a in
      let rb = right_least v b to_b in
      let k = times (a.x -ℤ v.x) (orient2d_of v b w) (omega (arith, ordered, ra)) not_b in
      let l = times_negative (b.x -ℤ v.x) (orient2d_of v a w) (omega (arith, ordered, rb)) not_a in
      let e = across in
      both_less (w.x -ℤ v.x) (orient2d_of v a b) (omega (arith, ordered, less)) turn (omega (arith, ordered, k, l, e))
    where
      both_less : (x y : ℤ) → x <ℤ pos 0 → y <ℤ pos 0 → (x *ℤ y) ≤ℤ pos 0 → ⊥
      both_less x y hx hy not =
          let t = below_times x (pos 0 -ℤ y) hx (omega (arith, ordered, hy)) in let e = mul_sub x (pos 0) y in let z = *ℤ-zero x in omega (arith, ordered, t, e, z, not)
  none_left to_a (inl far) turn not_a not_b (inr down) =
      let t = times_below (b.x -ℤ v.x) (w.y -ℤ v.y) (omega (arith, ordered, far)) (let d = down.1 in omega (arith, ordered, d)) in
      let z = ap (λ k. (b.y -ℤ v.y) *ℤ k) (none v.x w.x (sym down.0)) ∙ *ℤ-zero (b.y -ℤ v.y) in
      omega (arith, ordered, t, z, not_b)
  none_left to_a (inr up) turn not_a not_b (inr down) =
      let ra = right_least v a to_a in
      let t = times (a.x -ℤ v.x) (b.y -ℤ v.y) (omega (arith, ordered, ra)) (let u = up.1 in omega (arith, ordered, u)) in
      let z = ap (λ k. (a.y -ℤ v.y) *ℤ k) (none v.x b.x up.0) ∙ *ℤ-zero (a.y -ℤ v.y) in
      omega (arith, ordered, t, z, turn)
