-- The triangles at a corner of the hull make a fan.
use Rattle.std.proofs.Common.{◌≡◌, ◌⊎◌, inl, inr, ℕ, zero, suc, ◌+◌, ◌-◌, ◌/◌, ◌<◌, List, length, refl, sym, ap, ◌∙◌, subst, pos, ◌≤ℤ◌, eq-zero-or-pos, arith}
use Rattle.dcel_fixed.specs.HalfEdges.{rev}
use Rattle.dcel_fixed.proofs.Halves.{rev-rev}
use Rattle.dcel_predicates.specs.declared.point.Point.{Point}
use Rattle.dcel_predicates.specs.Determinants.{orient2d_of}
use Rattle.dcel_predicates.proofs.Points.{orient2d-first_swapped}
use Rattle.dcel_predicates.proofs.Signs.{ordered}
use Rattle.dcel_maps.specs.Shapes.{IsLive, IsMesh, Mesh, Shape, end_of, face_of, map_of, origin_of, prev_of}
use Rattle.dcel_maps.specs.Triangulations.{AllTriangles}
use Rattle.dcel_maps.specs.Walking.{IsRoundTrip, ccw_of}
use Rattle.dcel_maps.specs.Words.{count_of}
use Rattle.dcel_maps.proofs.maps.Soundness.{rev_live}
use Rattle.dcel_maps.proofs.walks.Links.{links_stand, prev-live}
use Rattle.dcel_maps.proofs.words.Reading.{face-prev}
use Rattle.dcel_plane.specs.Plane.{TrianglesTurnLeft, TurnsLeft}
use Rattle.dcel_plane.proofs.edits.Corners.{corners_are}
use Rattle.dcel_plane.specs.covering.Covering.{IsConvex, IsHull}
use Rattle.dcel_plane.specs.removal.Wheels.{CanFlipInPlane, CanTurnAt, IsFan, IsHollow, LiesOnHull, turns}
use Rattle.dcel_plane.proofs.covering.Triangles.{ends_before, left_at}
use Rattle.dcel_plane.proofs.removal.Fans.{flippable_or_gone}
use Rattle.dcel_plane.proofs.removal.Turnable.{turn_after, turn_after_at}
use Rattle.dcel_plane.proofs.removal.Turning.{least, listed}

module _ {V DE UE F : Type 0} (m : Mesh V DE UE F) (mesh : IsMesh m) (triangles : AllTriangles m.shape) (at : ℕ → Point) (plane : TrianglesTurnLeft at m.shape)
    (convex : IsConvex at m.shape) (hull : IsHull at m.shape) (h : ℕ) (live : IsLive m.shape h) (outer : face_of m.shape h ≡ 0)
    (w : List ℕ) (trip : IsRoundTrip (ccw_of m.shape) h w) where
  abbrev s : Shape
  s = m.shape

  abbrev o : ℕ
  o = origin_of m.shape h

  abbrev spin : ℕ → ℕ
  spin i = turns (ccw_of m.shape) i h

  -- the neighbor that the outer face comes from is the first
  abbrev neighbor : ℕ → Point
  neighbor i = at (end_of m.shape (turns (ccw_of m.shape) (suc i) h))

  pub record Spoke (k : ℕ) : Type 0 where
    pub alive : IsLive s k
    pub from : origin_of s k ≡ o

  end_next : (k : ℕ) → end_of s (ccw_of s k) ≡ origin_of s (prev_of s k)
  end_next k = ap (origin_of s) (rev-rev (prev_of s k))

  pub spoke : (i : ℕ) → Spoke (spin i)
  spoke zero = record { alive = live; from = refl }
  spoke (suc i) =
      let before = spoke i in
      record { alive = rev_live (map_of s) (prev_of s (spin i)) (prev-live mesh.sound (spin i) before.alive); from = ends_before m mesh (spin i) before.alive ∙ before.from }

  long : 0 < length w
  long = elim (eq-zero-or-pos (length w)) [
    | inr more ↦ more
    | inl none ↦ (let e = ap length trip.from in omega (arith, e, none))
  ]

  -- all but the outer half edge lie on triangles
  pub inner_at : (i : ℕ) → 0 < i → i < length w → 0 < face_of s (spin i)
  inner_at i more less = elim (eq-zero-or-pos (face_of s (spin i))) [
    | inr inner ↦ inner
    | inl none ↦ absurd
        (let out = spoke i in
        least (ccw_of s) h w trip i more less (hull.once (spin i) h out.alive live none outer out.from))
  ]

  pub corner_fan : IsFan (at (origin_of m.shape h)) (λ i. at (end_of m.shape (turns (ccw_of m.shape) (suc i) h))) (length w - 1)
  corner_fan = record {
    left = λ i less.
        let out = spoke (suc i) in
        let e : suc (suc i) ≡ suc (i + 1) = omega arith in
        subst (λ (n : ℕ). TurnsLeft (at o) (neighbor i) (at (end_of s (spin n)))) e
        (corners_are at out.from (mesh.sound.joined (spin (suc i)) out.alive) (sym (end_next (spin (suc i))))
        (left_at m mesh triangles at plane (spin (suc i)) out.alive (inner_at (suc i) (omega arith) (omega (arith, less)))));
    ahead = λ i within.
        let out = spoke (suc i) in
        let on_prev : face_of s (prev_of s h) ≡ 0 = face-prev (map_of s) s.words (links_stand mesh.sound) h live ∙ outer in
        let r = (convex.supports (prev_of s h) (rev (spin (suc i))) (prev-live mesh.sound h live) on_prev (rev_live (map_of s) (spin (suc i)) out.alive)).0 in
        let r' : orient2d_of (neighbor 0) (at o) (neighbor i) ≤ℤ pos 0 =
        subst (λ (k : ℕ). orient2d_of (at k) (at o) (neighbor i) ≤ℤ pos 0) (sym (end_next h))
        (subst (λ (k : ℕ). orient2d_of (at (origin_of s (prev_of s h))) (at k) (neighbor i) ≤ℤ pos 0) (ends_before m mesh h live) r) in
        let q = orient2d-first_swapped (neighbor 0) (at o) (neighbor i) in
        omega (arith, ordered, r', q);
  }

  -- an edge can be flipped, or the corner can go
  pub corner_turn : 2 < length w → ((e : ℕ) × (0 < count_of e w) × CanFlipInPlane at m.shape (e / 2))
      ⊎ (IsHollow (at (origin_of m.shape h)) (λ i. at (end_of m.shape (turns (ccw_of m.shape) (suc i) h))) (length w - 1)
      ⊎ LiesOnHull (at (origin_of m.shape h)) (λ i. at (end_of m.shape (turns (ccw_of m.shape) (suc i) h))) (length w - 1))
  corner_turn many = elim (flippable_or_gone (at o) neighbor (length w - 1) corner_fan (omega (arith, many))) [
    | inr gone ↦ inr gone
    | inl found ↦
        (let i = found.0 in
        let within = found.1 in
        let can = found.2 in
        let out_a = spoke (suc i) in
        let out_e = spoke (suc (suc i)) in
        let e2 : suc (i + 2) ≡ suc (suc (suc i)) = omega arith in
        let e1 : suc (i + 1) ≡ suc (suc i) = omega arith in
        let near : TurnsLeft (at o) (neighbor i) (neighbor (suc (suc i))) = subst (λ (n : ℕ). TurnsLeft (at o) (neighbor i) (at (end_of s (spin n)))) e2 can.near in
        let off : TurnsLeft (neighbor i) (neighbor (suc i)) (neighbor (suc (suc i))) =
        subst (λ (n : ℕ). TurnsLeft (neighbor i) (at (end_of s (spin n))) (neighbor (suc (suc i)))) e1
        (subst (λ (n : ℕ). TurnsLeft (neighbor i) (neighbor (i + 1)) (at (end_of s (spin n)))) e2 can.off) in
        inl (
          spin (suc (suc i)),
          listed (ccw_of s) h w trip (suc (suc i)) (omega (arith, within, many)),
          turn_after m mesh triangles at o (spin (suc i)) out_a.alive (inner_at (suc i) (omega arith) (omega (arith, within, many)))
              out_e.alive out_e.from (inner_at (suc (suc i)) (omega arith) (omega (arith, within, many))) near off,
        ))
  ]

  -- where the corner lies between its neighbors, a flip leaves a flat triangle there
  pub corner_turn_at : LiesOnHull (at (origin_of m.shape h)) (λ i. at (end_of m.shape (turns (ccw_of m.shape) (suc i) h))) (length w - 1)
      → CanTurnAt at m.shape (turns (ccw_of m.shape) 2 h / 2) (origin_of m.shape h)
  corner_turn_at lies =
      let long_3 : length w ≡ 3 = (let l = long in let k = lies.two in omega (arith, l, k)) in
      let out_a = spoke 1 in
      let out_e = spoke 2 in
      turn_after_at m mesh triangles at o (spin 1) out_a.alive (inner_at 1 (omega arith) (omega (arith, long_3))) out_e.alive out_e.from (inner_at 2 (omega arith) (omega (arith, long_3))) lies.turn
