-- A flip of an edge of the link leaves no other vertex in a circle.
use Rattle.std.proofs.Common.{◌≡◌, inl, inr, ℕ, ◌+◌, ◌*◌, sym, ap, ◌∙◌, pos, ◌<ℤ◌}
use Rattle.std.proofs.lemmas.Bool.{cases_eq}
use Rattle.dcel_predicates.specs.declared.point.Point.{Point}
use Rattle.dcel_predicates.specs.Determinants.{orient2d_of, incircle_of}
use Rattle.dcel_predicates.proofs.Points.{incircle-from_the_other_side, incircle-turned, orient2d-turned}
use Rattle.dcel_plane.proofs.star.Pencils.{positive_is}
use Rattle.dcel_maps.specs.Conditions.{CanFlip}
use Rattle.dcel_maps.specs.edits.Flip.{edge_flipped}
use Rattle.dcel_maps.specs.Shapes.{IsLive, IsMesh, Mesh, Shape, origin_of, prev_of}
use Rattle.dcel_maps.proofs.edits.Around.{at_edge}
use Rattle.dcel_maps.proofs.edits.Flips.{at_flip}
use Rattle.dcel_plane.specs.Plane.{IsCircled, IsInner, TrianglesTurnLeft}
use Rattle.dcel_plane.proofs.edits.Flipped.{flip_written, from_end, from_start, left_before, origin_after, origin_e, origin_far, origin_near, origin_same, origin_t, origin_t_after, origins, right_before, words}
use Rattle.dcel_plane.specs.star.Star.{IsLinkEdge, IsEmptyAt, IsEmptyRound, HasEmptyCirclesBut}
use Rattle.dcel_plane.proofs.star.Grown.{written_star}
use Rattle.dcel_plane.proofs.star.Turning.{at_least, empty_are, empty_nested, empty_still, round_turned, touches_first, touches_second}
use Rattle.dcel_plane.proofs.star.Spokes.{can, far_empty, in_link, near_empty, new}

module _ {V DE UE F : Type 0} (m : Mesh V DE UE F) (mesh : IsMesh m) (u v : ℕ) (at : ℕ → Point) (inner : IsInner m.shape u) (plane : TrianglesTurnLeft at m.shape)
    (star : HasEmptyCirclesBut at m.shape v) (circled : IsCircled at m.shape u) where
  abbrev s : Shape
  s = m.shape

  abbrev n : Shape
  n = (edge_flipped m u).shape

  open (at_edge s u) use {e, t, f, g, ep, en, tp, tn}

  allowed : CanFlip s u
  allowed = can m mesh u v at inner plane star circled

  open (at_flip m u mesh allowed) use {was, facing, differ}

  abbrev start : ℕ
  start = origin_of m.shape (2 * u)

  abbrev end : ℕ
  end = origin_of m.shape (2 * u + 1)

  abbrev near : ℕ
  near = origin_of m.shape (prev_of m.shape (2 * u))

  abbrev far : ℕ
  far = origin_of m.shape (prev_of m.shape (2 * u + 1))

  abbrev E : ℕ → ℕ → ℕ → Type 0
  E a b c = IsEmptyAt at m.shape v a b c

  abbrev I : ℕ → ℕ → ℕ → ℕ → Type 0
  I a b c d = pos 0 <ℤ incircle_of (at a) (at b) (at c) (at d)

  -- the circle test from each side
  inside_first : I end near start far
  inside_first = positive_is (sym (incircle-turned (at start) (at end) (at near) (at far))) circled

  inside_second : I near start end far
  inside_second = positive_is (sym (incircle-turned (at end) (at near) (at start) (at far))) inside_first

  from_far : I end start far near
  from_far = positive_is (sym (incircle-from_the_other_side (at start) (at end) (at near) (at far))) circled

  inside_third : I start far end near
  inside_third = positive_is (sym (incircle-turned (at end) (at start) (at far) (at near))) from_far

  inside_fourth : I far end start near
  inside_fourth = positive_is (sym (incircle-turned (at start) (at far) (at end) (at near))) inside_third

  abbrev O : ℕ → ℕ → ℕ → Type 0
  O a b c = pos 0 <ℤ orient2d_of (at a) (at b) (at c)

  turned : (a b c : ℕ) → O a b c → O b c a
  turned a b c left = positive_is (sym (orient2d-turned (at a) (at b) (at c))) left

  old_near : O start end near
  old_near = left_before m mesh u allowed at plane inner.inner

  old_far : O end start far
  old_far = right_before m mesh u allowed at plane inner.inner_facing

  new_first : O near far end
  new_first = (new m mesh u v at inner plane star circled).first

  new_second : O far near start
  new_second = (new m mesh u v at inner plane star circled).second

  -- the sides that the new triangles have from the old ones
  far_end : E far end near
  far_end =
      empty_nested at s v far end start near (turned start far end (turned end start far old_far)) (turned near far end new_first) inside_fourth
      (far_empty m mesh u v at inner plane star circled).2

  start_far : E start far near
  start_far =
      empty_nested at s v start far end near (turned end start far old_far) (turned near start far (turned far near start new_second)) inside_third
      (far_empty m mesh u v at inner plane star circled).1

  end_near : E end near far
  end_near =
      empty_nested at s v end near start far (turned start end near old_near) (turned far end near (turned near far end new_first)) inside_first
      (near_empty m mesh u v at inner plane star circled).1

  near_start : E near start far
  near_start =
      empty_nested at s v near start end far (turned end near start (turned start end near old_near)) (turned far near start new_second) inside_second
      (near_empty m mesh u v at inner plane star circled).2

  -- the new triangles (near, far, end) and (far, near, start)
  first_round : IsLinkEdge s v u → E near far end × E far end near × E end near far
  first_round (inl is) = (touches_first at s v near far end is, far_end, touches_second at s v end near far is)
  first_round (inr is) = (touches_second at s v near far end is, touches_first at s v far end near is, end_near)

  second_round : IsLinkEdge s v u → E far near start × E near start far × E start far near
  second_round (inl is) = (touches_second at s v far near start is, touches_first at s v near start far is, start_far)
  second_round (inr is) = (touches_first at s v far near start is, near_start, touches_second at s v start far near is)

  -- there are no new vertices
  starts : (k : ℕ) → IsLive n k → (i : ℕ) × IsLive s i × (origin_of s i ≡ origin_of n k)
  starts k live = elim (cases_eq k e) [
    | inl is ↦ (ep, was.live_z, sym (ap (origin_of n) is ∙ origin_e m mesh u allowed))
    | inr not_e ↦ elim (cases_eq k t) [
      | inl is ↦ (tp, facing.live_z, sym (ap (origin_of n) is ∙ origin_t m mesh u allowed))
      | inr not_t ↦ (k, live, sym (origin_same m mesh u allowed at k live not_e not_t))
    ]
  ]

  still : (a b c : ℕ) → E a b c → IsEmptyAt at n v a b c
  still a b c empty = empty_still at s n v a b c starts empty

  abbrev Round : ℕ → ℕ → ℕ → Type 0
  Round x y z = IsEmptyRound at (edge_flipped m u).shape v x y z

  on_first : IsLinkEdge s v u → Round e tp en
  on_first across =
      let round = first_round across in
      let a : near ≡ origin_of n e = sym (origin_e m mesh u allowed) in
      let b : far ≡ origin_of n tp = sym (origin_far m mesh u allowed at) in
      let c : end ≡ origin_of n en = sym (from_end m mesh u allowed) ∙ sym (origin_after m mesh u allowed at) in
      (empty_are at n v a b c (still near far end round.0), empty_are at n v b c a (still far end near round.1), empty_are at n v c a b (still end near far round.2))

  on_second : IsLinkEdge s v u → Round t ep tn
  on_second across =
      let round = second_round across in
      let a : far ≡ origin_of n t = sym (origin_t m mesh u allowed) in
      let b : near ≡ origin_of n ep = sym (origin_near m mesh u allowed at) in
      let c : start ≡ origin_of n tn = sym (from_start m mesh u allowed) ∙ sym (origin_t_after m mesh u allowed at) in
      (empty_are at n v a b c (still far near start round.0), empty_are at n v b c a (still near start far round.1), empty_are at n v c a b (still start far near round.2))

  pub star_flipped : HasEmptyCirclesBut at n v
  star_flipped =
      let across = in_link m mesh u v at inner plane star circled in
      written_star at s n (words m mesh u allowed) (origins m mesh u allowed) (flip_written m mesh u allowed) mesh.sound v (λ k live. inr (starts k live)) star (
        (λ x y z above is. at_least n Round (round_turned at n v) e tp en x y z is (on_first across)),
        ((λ x y z above is. at_least n Round (round_turned at n v) t ep tn x y z is (on_second across)), tt),
      )
      tt
