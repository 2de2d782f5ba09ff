-- Outer half edges that have a vertex on their left, while the hull is closed round it.
use Rattle.std.proofs.Common.{◌≡◌, ◌≢◌, ◌⊎◌, inl, inr, ℕ, ◌/◌, true, false, sym, ap, ◌∙◌, pos, ◌<ℤ◌, arith}
use Rattle.std.proofs.lemmas.Bool.{cases_Bool, cases_eq}
use Rattle.std.proofs.lemmas.Int.{by_lt_z}
use Rattle.dcel_predicates.specs.Determinants.{orient2d_of}
use Rattle.dcel_predicates.specs.declared.point.Point.{Point}
use Rattle.dcel_predicates.proofs.Signs.{ordered}
use Rattle.dcel_maps.specs.Shapes.{IsLive, Shape, edge_is_live, end_of, face_of, origin_of}
use Rattle.dcel_plane.proofs.covering.Inside.{on_end, on_start}

module _ (at : ℕ → Point) (s : Shape) (t : ℕ) where
  abbrev p : ℕ → Point
  p h = at (origin_of s h)

  abbrev e : ℕ → Point
  e h = at (end_of s h)

  -- an outer half edge that has t on its left
  pub record IsSeen (h : ℕ) : Type 0 where
    pub live : IsLive s h
    pub on : face_of s h ≡ 0
    pub seen : pos 0 <ℤ orient2d_of (p h) (e h) (at t)

  pub seen_or_not : (h : ℕ) → IsSeen h ⊎ (¬ IsSeen h)
  seen_or_not h = elim (cases_Bool (edge_is_live s (h / 2))) [
    | inr dead ↦ inr (λ is. let l = is.live in apart_bools (sym dead ∙ l))
    | inl live ↦ elim (cases_eq (face_of s h) 0) [
      | inr off ↦ inr (λ is. off is.on)
      | inl on ↦ by_lt_z (pos 0) (orient2d_of (p h) (e h) (at t)) (λ more. inl (record { live = live; on = on; seen = more })) (λ not. inr (λ is. let z = is.seen in omega (arith, ordered, not, z)))
    ]
  ]
    where
      apart_bools : false ≡ true → ⊥
      apart_bools is = grind arith

  -- it doesn't start there, nor end there
  pub seen_start : (h : ℕ) → IsSeen h → origin_of s h ≢ t
  seen_start h is starts =
      let z : orient2d_of (p h) (e h) (at t) ≡ pos 0 = ap (λ (i : ℕ). orient2d_of (at i) (e h) (at t)) starts ∙ on_end (at t) (e h) in
      let q = is.seen in omega (arith, ordered, z, q)

  pub seen_end : (h : ℕ) → IsSeen h → end_of s h ≢ t
  seen_end h is ends =
      let z : orient2d_of (p h) (e h) (at t) ≡ pos 0 = ap (λ (i : ℕ). orient2d_of (p h) (at i) (at t)) ends ∙ on_start (p h) (at t) in
      let q = is.seen in omega (arith, ordered, z, q)
