-- Of the triangles at a corner of the hull an edge can be flipped, or the corner can go.
use Rattle.std.proofs.Common.{◌≡◌, ◌⊎◌, inl, inr, ℕ, zero, suc, ◌+◌, ◌-◌, ◌<◌, ◌≤◌, ℤ, pos, ◌+ℤ◌, ◌-ℤ◌, ◌*ℤ◌, ◌<ℤ◌, ◌≤ℤ◌, refl, subst, arith}
use Rattle.std.proofs.lemmas.Bool.{cases_lt}
use Rattle.std.proofs.lemmas.Int.{by_lt_z}
use Rattle.dcel_predicates.specs.declared.point.Point.{Point}
use Rattle.dcel_predicates.specs.Determinants.{orient2d_of}
use Rattle.dcel_predicates.proofs.Signs.{factor_positive, ordered, times, times_positive}
use Rattle.dcel_plane.specs.removal.Wheels.{IsFan, IsFlippable, IsHollow, LiesOnHull}
use Rattle.dcel_plane.proofs.covering.Along.{none_first}
use Rattle.dcel_plane.proofs.removal.Wheels.{plucker, search_below, spans, summed}

module _ (v : Point) (u : ℕ → Point) (k : ℕ) (fan : IsFan v u k) where
  abbrev t : ℕ → ℕ → ℤ
  t i j = orient2d_of v (u i) (u j)

  step : (i j : ℕ) → i + 1 ≡ j → j ≤ k → pos 0 <ℤ t i j
  step i j is within = subst (λ (n : ℕ). pos 0 <ℤ t i n) is (fan.left i (omega (arith, is, within)))

  -- in [a b] [c d] = [a c] [b d] - [a d] [b c]
  sums : (p q r s x y : ℤ) → p *ℤ q ≡ (r *ℤ s) -ℤ (x *ℤ y) → (r *ℤ s) ≡ (p *ℤ q) +ℤ (x *ℤ y)
  sums p q r s x y e = omega (arith, ordered, e)

  -- all but the first and the last lie strictly ahead
  strict : (i : ℕ) → 0 < i → i < k → pos 0 <ℤ t 0 i
  strict i more less =
      by_lt_z (pos 0) (t 0 i) (λ is. is)
      (λ not. absurd
      (let at_i = fan.ahead i (omega (arith, less)) in
      let zero_turn : t 0 i ≡ pos 0 = omega (arith, ordered, at_i, not) in
      let here : suc (i - 1) ≡ i = omega (arith, more) in
      let before = fan.ahead (i - 1) (omega (arith, less)) in
      let after = fan.ahead (i + 1) (omega (arith, less)) in
      let bc = step (i - 1) i (omega (arith, more)) (omega (arith, less)) in
      let cd = step i (i + 1) refl (omega (arith, less)) in
      let e = plucker v (u 0) (u (i - 1)) (u i) (u (i + 1)) in
      let z = none_first (t 0 i) (t (i - 1) (i + 1)) zero_turn in
      let p = times (t 0 (i - 1)) (t i (i + 1)) before (omega (arith, ordered, cd)) in
      let q = times (t 0 (i + 1)) (t (i - 1) i) after (omega (arith, ordered, bc)) in
      both_none i more less zero_turn (no_factor (t 0 (i - 1)) (t i (i + 1)) cd before (omega (arith, ordered, e, z, p, q)))
      (no_factor (t 0 (i + 1)) (t (i - 1) i) bc after (omega (arith, ordered, e, z, p, q)))))
    where
      no_factor : (x y : ℤ) → pos 0 <ℤ y → pos 0 ≤ℤ x → (x *ℤ y) ≡ pos 0 → x ≡ pos 0
      no_factor x y more not none =
          by_lt_z (pos 0) x (λ is. absurd (let p = times_positive x y is more in omega (arith, ordered, p, none))) (λ nor. omega (arith, ordered, not, nor))

      both_none : (i : ℕ) → 0 < i → i < k → t 0 i ≡ pos 0 → t 0 (i - 1) ≡ pos 0 → t 0 (i + 1) ≡ pos 0 → ⊥
      both_none i more less here before after =
          let a = step 0 1 refl (omega (arith, more, less)) in
          let e = plucker v (u 0) (u 1) (u i) (u (i + 1)) in
          let cd = step i (i + 1) refl (omega (arith, less)) in
          let p = times_positive (t 0 1) (t i (i + 1)) a cd in
          let q = none_first (t 0 i) (t 1 (i + 1)) here in
          let r = none_first (t 0 (i + 1)) (t 1 i) after in
          omega (arith, ordered, e, p, q, r)

  -- so each angle between a neighbor and the next but one is less than a half turn, but where all is one half turn
  narrow : (i : ℕ) → i + 2 ≤ k → (pos 0 <ℤ t i (i + 2)) ⊎ ((k ≡ 2) × (t 0 2 ≡ pos 0))
  narrow zero within = elim (cases_lt 2 k) [
    | inl more ↦ inl (strict 2 (omega arith) more)
    | inr not ↦
        (let is : k ≡ 2 = omega (arith, not, within) in
        let a = fan.ahead 2 (omega (arith, is)) in
        by_lt_z (pos 0) (t 0 2) (λ less. inl less) (λ nor. inr (is, omega (arith, ordered, a, nor))))
  ]
  narrow (suc i) within =
      let ab = strict (suc i) (omega arith) (omega (arith, within)) in
      let ac = strict (suc i + 1) (omega arith) (omega (arith, within)) in
      let ad = fan.ahead (suc i + 2) within in
      let bc = step (suc i) (suc i + 1) refl (omega (arith, within)) in
      let cd = step (suc i + 1) (suc i + 2) (omega arith) within in
      let e = plucker v (u 0) (u (suc i)) (u (suc i + 1)) (u (suc i + 2)) in
      let p = times_positive (t 0 (suc i)) (t (suc i + 1) (suc i + 2)) ab cd in
      let q = times (t 0 (suc i + 2)) (t (suc i) (suc i + 1)) ad (omega (arith, ordered, bc)) in
      inl (factor_positive (t 0 (suc i + 1)) (t (suc i) (suc i + 2)) ac (omega (arith, ordered, e, p, q)))

  flip-decided : (i : ℕ) → ((i + 2 ≤ k) × IsFlippable v u i) ⊎ ((i + 2 ≤ k) × IsFlippable v u i → ⊥)
  flip-decided i = elim (cases_lt k (i + 2)) [
    | inl past ↦ inr (λ is. let w = is.0 in omega (arith, past, w))
    | inr within ↦
        by_lt_z (pos 0) (t i (i + 2))
        (λ more. by_lt_z (pos 0) (orient2d_of (u i) (u (i + 1)) (u (i + 2))) (λ off. inl (within, record { near = more; off = off }))
        (λ not. inr (λ can. let c = can.1.off in omega (arith, ordered, c, not))))
        (λ not. inr (λ can. let c = can.1.near in omega (arith, ordered, c, not)))
  ]

  on_hull : k ≡ 2 → t 0 2 ≡ pos 0 → LiesOnHull v u k
  on_hull is on =
      let a = step 0 1 refl (omega (arith, is)) in
      let b = step 1 2 refl (omega (arith, is)) in
      let s = summed v (u 0) (u 1) (u 2) in
      record { two = is; on = on; turn = omega (arith, ordered, a, b, s, on) }

  pub flippable_or_gone : 1 < k → ((i : ℕ) × (i + 2 ≤ k) × IsFlippable v u i) ⊎ (IsHollow v u k ⊎ LiesOnHull v u k)
  flippable_or_gone two = elim (search_below (λ i. (i + 2 ≤ k) × IsFlippable v u i) flip-decided k) [
    | inl found ↦ inl (found.0, found.2.0, found.2.1)
    | inr none ↦ inr (elim (narrow 0 two) [
      | inr straight ↦ inr (on_hull straight.0 straight.1)
      | inl first ↦ inl (hollow none first)
    ])
  ]
    where
      flat : ((i : ℕ) → i < k → (i + 2 ≤ k) × IsFlippable v u i → ⊥) → pos 0 <ℤ t 0 2 → (i : ℕ) → i + 2 ≤ k → orient2d_of (u i) (u (i + 1)) (u (i + 2)) ≤ℤ pos 0
      flat none first i within = elim (narrow i within) [
        | inr straight ↦ absurd (let z = straight.1 in omega (arith, ordered, z, first))
        | inl more ↦
            by_lt_z (pos 0) (orient2d_of (u i) (u (i + 1)) (u (i + 2)))
            (λ off. absurd (none i (omega (arith, within)) (within, record { near = more; off = off }))) (λ not. not)
      ]

      hollow : ((i : ℕ) → i < k → (i + 2 ≤ k) × IsFlippable v u i → ⊥) → pos 0 <ℤ t 0 2 → IsHollow v u k
      hollow none first =
          let corners = flat none first in
          let over = (spans v u k fan.left (k - 1) (omega (arith, two)) (λ i below. corners i (omega (arith, below)))).less in
          let e : (k - 1) + 1 ≡ k = omega (arith, two) in
          record { strict = subst (λ (n : ℕ). pos 0 <ℤ t 0 n) e over; flat = corners }
