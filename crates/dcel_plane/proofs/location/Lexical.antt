-- Points on a line in their order from left to right, and upwards where it is vertical.
use Rattle.std.proofs.Common.{◌≡◌, ◌⊎◌, inl, inr, [], ◌∷◌, refl, ℤ, pos, ◌+ℤ◌, ◌-ℤ◌, ◌*ℤ◌, ◌<ℤ◌, ◌≤ℤ◌, arith}
use Rattle.std.proofs.lemmas.Int.{by_lt_z}
use Rattle.dcel_predicates.specs.Determinants.{orient2d_of}
use Rattle.dcel_predicates.specs.declared.point.Point.{Point}
use Rattle.dcel_predicates.proofs.Ring.{by_terms, minus, num, plus, times as by, var}
use Rattle.dcel_predicates.proofs.Signs.{ordered, square, times, times_positive}
use Rattle.dcel_predicates.proofs.Terms.{orient, spot}
use Rattle.dcel_plane.proofs.covering.Along.{none_first, none_second}
use Rattle.dcel_plane.proofs.covering.Products.{times_below}
use Rattle.dcel_plane.specs.hull.Straight.{dot_of_steps}
use Rattle.dcel_plane.specs.location.Locating.{IsBefore}

-- a way that leads to the right, or straight up
abbrev LeadsUp : ℤ → ℤ → Type 0
LeadsUp x y = (pos 0 <ℤ x) ⊎ ((x ≡ pos 0) × (pos 0 <ℤ y))

-- two of them on one line have one direction
module _ (u v x y : ℤ) (level : (u *ℤ y) -ℤ (v *ℤ x) ≡ pos 0) where
  identity : u *ℤ (v *ℤ y) ≡ ((v *ℤ v) *ℤ x) +ℤ (v *ℤ ((u *ℤ y) -ℤ (v *ℤ x)))
  identity =
      by_terms (u ∷ v ∷ x ∷ y ∷ []) (by (var 0) (by (var 1) (var 3)))
      (plus (by (by (var 1) (var 1)) (var 2)) (by (var 1) (minus (by (var 0) (var 3)) (by (var 1) (var 2))))) refl

  both_right : pos 0 <ℤ u → pos 0 <ℤ x → pos 0 <ℤ ((u *ℤ x) +ℤ (v *ℤ y))
  both_right hu hx =
      let a = times_positive u x hu hx in
      by_lt_z (v *ℤ y) (pos 0)
      (λ less. absurd
      (let t = times_below u (v *ℤ y) hu less in
      let q = times (v *ℤ v) x (square v) (omega (arith, ordered, hx)) in
      let z = none_second v ((u *ℤ y) -ℤ (v *ℤ x)) level in
      let i = identity in omega (arith, ordered, t, q, z, i)))
      (λ not. omega (arith, ordered, a, not))

  one_way : LeadsUp u v → LeadsUp x y → pos 0 <ℤ ((u *ℤ x) +ℤ (v *ℤ y))
  one_way first second = elim first [
    | inl right ↦ elim second [
      | inl right_too ↦ both_right right right_too
      | inr up ↦ absurd (let t = times_positive u y right up.1 in let z = none_second v x up.0 in omega (arith, ordered, t, z, level))
    ]
    | inr up ↦ elim second [
      | inl right ↦ absurd (let t = times_positive v x up.1 right in let z = none_first u y up.0 in omega (arith, ordered, t, z, level))
      | inr up_too ↦ (let t = times_positive v y up.1 up_too.1 in let z = none_first u x up.0 in omega (arith, ordered, t, z))
    ]
  ]

leads : (a b : Point) → IsBefore a b → LeadsUp (b.x -ℤ a.x) (b.y -ℤ a.y)
leads a b before = elim before [ inl less ↦ inl (omega (arith, ordered, less)) | inr up ↦ inr (let e = up.0 in omega (arith, ordered, e), let h = up.1 in omega (arith, ordered, h)) ]

module _ (a b p : Point) (on : orient2d_of a b p ≡ pos 0) (before : IsBefore a b) where
  abbrev u : ℤ
  u = b.x -ℤ a.x

  abbrev v : ℤ
  v = b.y -ℤ a.y

  level_end : (u *ℤ (p.y -ℤ b.y)) -ℤ (v *ℤ (p.x -ℤ b.x)) ≡ orient2d_of a b p
  level_end =
      by_terms (a.x ∷ a.y ∷ b.x ∷ b.y ∷ p.x ∷ p.y ∷ [])
      (minus (by (minus (spot 1).x (spot 0).x) (minus (spot 2).y (spot 1).y)) (by (minus (spot 1).y (spot 0).y) (minus (spot 2).x (spot 1).x))) (orient (spot 0) (spot 1) (spot 2)) refl

  level_end_back : (u *ℤ (b.y -ℤ p.y)) -ℤ (v *ℤ (b.x -ℤ p.x)) ≡ pos 0 -ℤ orient2d_of a b p
  level_end_back =
      by_terms (a.x ∷ a.y ∷ b.x ∷ b.y ∷ p.x ∷ p.y ∷ [])
      (minus (by (minus (spot 1).x (spot 0).x) (minus (spot 1).y (spot 2).y)) (by (minus (spot 1).y (spot 0).y) (minus (spot 1).x (spot 2).x)))
      (minus (num (pos 0)) (orient (spot 0) (spot 1) (spot 2))) refl

  level_start : (u *ℤ (p.y -ℤ a.y)) -ℤ (v *ℤ (p.x -ℤ a.x)) ≡ orient2d_of a b p
  level_start =
      by_terms (a.x ∷ a.y ∷ b.x ∷ b.y ∷ p.x ∷ p.y ∷ [])
      (minus (by (minus (spot 1).x (spot 0).x) (minus (spot 2).y (spot 0).y)) (by (minus (spot 1).y (spot 0).y) (minus (spot 2).x (spot 0).x))) (orient (spot 0) (spot 1) (spot 2)) refl

  level_start_back : (u *ℤ (a.y -ℤ p.y)) -ℤ (v *ℤ (a.x -ℤ p.x)) ≡ pos 0 -ℤ orient2d_of a b p
  level_start_back =
      by_terms (a.x ∷ a.y ∷ b.x ∷ b.y ∷ p.x ∷ p.y ∷ [])
      (minus (by (minus (spot 1).x (spot 0).x) (minus (spot 0).y (spot 2).y)) (by (minus (spot 1).y (spot 0).y) (minus (spot 0).x (spot 2).x)))
      (minus (num (pos 0)) (orient (spot 0) (spot 1) (spot 2))) refl

  -- after the end
  pub after_end : IsBefore b p → pos 0 <ℤ dot_of_steps a b p
  after_end is = one_way u v (p.x -ℤ b.x) (p.y -ℤ b.y) (let e = level_end in omega (arith, ordered, e, on)) (leads a b before) (leads b p is)

  end_back : ((u *ℤ (b.x -ℤ p.x)) +ℤ (v *ℤ (b.y -ℤ p.y))) +ℤ dot_of_steps a b p ≡ pos 0
  end_back =
      by_terms (a.x ∷ a.y ∷ b.x ∷ b.y ∷ p.x ∷ p.y ∷ [])
      (plus (plus (by (minus (spot 1).x (spot 0).x) (minus (spot 1).x (spot 2).x)) (by (minus (spot 1).y (spot 0).y) (minus (spot 1).y (spot 2).y)))
      (plus (by (minus (spot 1).x (spot 0).x) (minus (spot 2).x (spot 1).x)) (by (minus (spot 1).y (spot 0).y) (minus (spot 2).y (spot 1).y)))) (num (pos 0)) refl

  -- before the start
  start_turned : (u *ℤ (a.x -ℤ p.x)) +ℤ (v *ℤ (a.y -ℤ p.y)) ≡ dot_of_steps b a p
  start_turned =
      by_terms (a.x ∷ a.y ∷ b.x ∷ b.y ∷ p.x ∷ p.y ∷ [])
      (plus (by (minus (spot 1).x (spot 0).x) (minus (spot 0).x (spot 2).x)) (by (minus (spot 1).y (spot 0).y) (minus (spot 0).y (spot 2).y)))
      (plus (by (minus (spot 0).x (spot 1).x) (minus (spot 2).x (spot 0).x)) (by (minus (spot 0).y (spot 1).y) (minus (spot 2).y (spot 0).y))) refl

  pub before_start : IsBefore p a → pos 0 <ℤ dot_of_steps b a p
  before_start is =
      let t = one_way u v (a.x -ℤ p.x) (a.y -ℤ p.y) (let e = level_start_back in omega (arith, ordered, e, on)) (leads a b before) (leads p a is) in
      let e = start_turned in omega (arith, ordered, t, e)

  start_back : ((u *ℤ (p.x -ℤ a.x)) +ℤ (v *ℤ (p.y -ℤ a.y))) +ℤ dot_of_steps b a p ≡ pos 0
  start_back =
      by_terms (a.x ∷ a.y ∷ b.x ∷ b.y ∷ p.x ∷ p.y ∷ [])
      (plus (plus (by (minus (spot 1).x (spot 0).x) (minus (spot 2).x (spot 0).x)) (by (minus (spot 1).y (spot 0).y) (minus (spot 2).y (spot 0).y)))
      (plus (by (minus (spot 0).x (spot 1).x) (minus (spot 2).x (spot 0).x)) (by (minus (spot 0).y (spot 1).y) (minus (spot 2).y (spot 0).y)))) (num (pos 0)) refl

  -- and not otherwise
  pub not_after_end : ¬ IsBefore b p → dot_of_steps a b p ≤ℤ pos 0
  not_after_end not =
      by_lt_z (pos 0) (dot_of_steps a b p)
      (λ more. absurd
      (by_lt_z b.x p.x (λ less. not (inl less))
      (λ no_right. by_lt_z p.x b.x (λ less. behind more (inl less))
      (λ no_left. by_lt_z b.y p.y (λ less. not (inr (omega (arith, ordered, no_right, no_left), less)))
      (λ no_up. by_lt_z p.y b.y (λ less. behind more (inr (omega (arith, ordered, no_right, no_left), less)))
      (λ no_down. nowhere more (omega (arith, ordered, no_right, no_left)) (omega (arith, ordered, no_up, no_down))))))))
      (λ no. no)
    where
      behind : pos 0 <ℤ dot_of_steps a b p → IsBefore p b → ⊥
      behind more is =
          let t = one_way u v (b.x -ℤ p.x) (b.y -ℤ p.y) (let e = level_end_back in omega (arith, ordered, e, on)) (leads a b before) (leads p b is) in
          let e = end_back in omega (arith, ordered, t, e, more)

      nowhere : pos 0 <ℤ dot_of_steps a b p → p.x ≡ b.x → p.y ≡ b.y → ⊥
      nowhere more ex ey =
          let i = none_second u (p.x -ℤ b.x) (omega (arith, ordered, ex)) in let j = none_second v (p.y -ℤ b.y) (omega (arith, ordered, ey)) in omega (arith, ordered, i, j, more)

  pub not_before_start : ¬ IsBefore p a → dot_of_steps b a p ≤ℤ pos 0
  not_before_start not =
      by_lt_z (pos 0) (dot_of_steps b a p)
      (λ more. absurd
      (by_lt_z p.x a.x (λ less. not (inl less))
      (λ no_left. by_lt_z a.x p.x (λ less. ahead more (inl less))
      (λ no_right. by_lt_z p.y a.y (λ less. not (inr (omega (arith, ordered, no_right, no_left), less)))
      (λ no_down. by_lt_z a.y p.y (λ less. ahead more (inr (omega (arith, ordered, no_right, no_left), less)))
      (λ no_up. nowhere more (omega (arith, ordered, no_right, no_left)) (omega (arith, ordered, no_up, no_down))))))))
      (λ no. no)
    where
      ahead : pos 0 <ℤ dot_of_steps b a p → IsBefore a p → ⊥
      ahead more is =
          let t = one_way u v (p.x -ℤ a.x) (p.y -ℤ a.y) (let e = level_start in omega (arith, ordered, e, on)) (leads a b before) (leads a p is) in
          let e = start_back in omega (arith, ordered, t, e, more)

      nowhere : pos 0 <ℤ dot_of_steps b a p → p.x ≡ a.x → p.y ≡ a.y → ⊥
      nowhere more ex ey =
          let i = none_second u (p.x -ℤ a.x) (omega (arith, ordered, ex)) in let j = none_second v (p.y -ℤ a.y) (omega (arith, ordered, ey)) in
          let e = start_back in omega (arith, ordered, i, j, e, more)
