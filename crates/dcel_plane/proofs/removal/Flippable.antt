-- Which edges of an inner vertex can be flipped, by its neighbors.
use Rattle.std.proofs.Common.{◌≡◌, ◌⊎◌, inl, inr, ℕ, suc, ◌+◌, ◌/◌, ◌<◌, List, length, sym, ap, ◌∙◌, subst, pos, arith}
use Rattle.std.proofs.lemmas.Bool.{cases_lt}
use Rattle.dcel_predicates.specs.declared.point.Point.{Point}
use Rattle.dcel_predicates.specs.Determinants.{orient2d_of}
use Rattle.dcel_maps.specs.Shapes.{IsLive, IsMesh, Mesh, Shape, end_of, face_of, origin_of}
use Rattle.dcel_maps.specs.Triangulations.{AllTriangles}
use Rattle.dcel_maps.specs.Walking.{IsRoundTrip, ccw_of}
use Rattle.dcel_maps.specs.Words.{count_of}
use Rattle.dcel_plane.specs.Plane.{TrianglesTurnLeft, TurnsLeft}
use Rattle.dcel_plane.specs.covering.Covering.{IsConvex, IsHull}
use Rattle.dcel_plane.specs.removal.Wheels.{CanFlipInPlane, IsFlippable, IsWheel, LeadsAcross, LiesBetween, MakesTwo, turns}
use Rattle.dcel_plane.proofs.removal.Turning.{Out, closes, least, listed, out, turns_sum, wheel}
use Rattle.dcel_plane.proofs.removal.Wheels.{flippable, flippable_or_between, three_left, two_triangles}
use Rattle.dcel_plane.proofs.removal.Turnable.{turn_after}

module _ {V DE UE F : Type 0} (m : Mesh V DE UE F) (mesh : IsMesh m) (triangles : AllTriangles m.shape) (at : ℕ → Point) (plane : TrianglesTurnLeft at m.shape)
    (convex : IsConvex at m.shape) (hull : IsHull at m.shape) (h : ℕ) (live : IsLive m.shape h)
    (inner : (k : ℕ) → IsLive m.shape k → origin_of m.shape k ≡ origin_of m.shape h → 0 < face_of m.shape k) where
  abbrev s : Shape
  s = m.shape

  abbrev o : ℕ
  o = origin_of m.shape h

  abbrev spin : ℕ → ℕ
  spin i = turns (ccw_of m.shape) i h

  abbrev neighbor : ℕ → Point
  neighbor i = at (end_of m.shape (turns (ccw_of m.shape) i h))

  leads_out : (i : ℕ) → Out m mesh triangles at plane convex hull h live inner (spin i)
  leads_out i = out m mesh triangles at plane convex hull h live inner i

  next_at : (P : Point → Type 0) (i j : ℕ) → i ≡ j → P (neighbor i) → P (neighbor j)
  next_at P i j is holds = subst (λ (n : ℕ). P (neighbor n)) is holds

  can_turn : (i : ℕ) → IsFlippable (at o) neighbor i → CanFlipInPlane at s (spin (suc i) / 2)
  can_turn i can =
      let out_a = leads_out i in
      let out_e = leads_out (suc i) in
      turn_after m mesh triangles at o (spin i) out_a.alive out_a.on out_e.alive out_e.from out_e.on
      (next_at (λ q. TurnsLeft (at o) (neighbor i) q) (i + 2) (suc (suc i)) (omega arith) can.near)
      (next_at (λ q. TurnsLeft (neighbor i) (neighbor (suc i)) q) (i + 2) (suc (suc i)) (omega arith)
      (next_at (λ q. TurnsLeft (neighbor i) q (neighbor (i + 2))) (i + 1) (suc i) (omega arith) can.off))

  module _ (w : List ℕ) (trip : IsRoundTrip (ccw_of m.shape) h w) where
    pub round_wheel : IsWheel (at o) (λ i. at (end_of m.shape (turns (ccw_of m.shape) i h))) (length w)
    round_wheel = wheel m mesh triangles at plane convex hull h live inner (length w) (closes (ccw_of s) h w trip) (least (ccw_of s) h w trip)

    -- a half edge of the list
    on_list : (i : ℕ) → i < length w → 0 < count_of (spin (suc i)) w
    on_list i below = elim (cases_lt (suc i) (length w)) [
      | inl more ↦ listed (ccw_of s) h w trip (suc i) more
      | inr last ↦
          (let is : length w ≡ suc i = omega (arith, below, last) in
          let closed : h ≡ spin (suc i) = sym (closes (ccw_of s) h w trip) ∙ ap (λ n. turns (ccw_of s) n h) is in
          subst (λ (k : ℕ). 0 < count_of k w) closed (listed (ccw_of s) h w trip 0 (omega (arith, below))))
    ]

    pub five_turn : 4 < length w → (e : ℕ) × (0 < count_of e w) × CanFlipInPlane at m.shape (e / 2)
    five_turn five =
        let found = flippable (at o) neighbor (length w) round_wheel five in
        (spin (suc found.0), on_list found.0 found.1, can_turn found.0 found.2)

    leads_across : (i : ℕ) → LiesBetween (at o) neighbor i → LeadsAcross at s (spin i)
    leads_across i between =
        let two : turns (ccw_of s) (i + 2) h ≡ turns (ccw_of s) 2 (spin i) = ap (λ n. turns (ccw_of s) n h) (let e : i + 2 ≡ 2 + i = omega arith in e) ∙ turns_sum (ccw_of s) 2 i h in
        let one : turns (ccw_of s) (i + 1) h ≡ turns (ccw_of s) 1 (spin i) = ap (λ n. turns (ccw_of s) n h) (let e : i + 1 ≡ 1 + i = omega arith in e) ∙ turns_sum (ccw_of s) 1 i h in
        let three : turns (ccw_of s) (i + 3) h ≡ turns (ccw_of s) 3 (spin i) = ap (λ n. turns (ccw_of s) n h) (let e : i + 3 ≡ 3 + i = omega arith in e) ∙ turns_sum (ccw_of s) 3 i h in
        record {
          on =
              subst (λ (k : ℕ). orient2d_of (at k) (neighbor i) (at (end_of s (turns (ccw_of s) 2 (spin i)))) ≡ pos 0) (sym (leads_out i).from)
              (subst (λ (k : ℕ). orient2d_of (at o) (neighbor i) (at (end_of s k)) ≡ pos 0) two between.on);
          first =
              subst (λ (k : ℕ). TurnsLeft (neighbor i) (at (end_of s (turns (ccw_of s) 1 (spin i)))) (at (end_of s k))) two
              (subst (λ (k : ℕ). TurnsLeft (neighbor i) (at (end_of s k)) (neighbor (i + 2))) one between.first);
          second =
              subst (λ (k : ℕ). TurnsLeft (at (end_of s (turns (ccw_of s) 2 (spin i)))) (at (end_of s k)) (neighbor i)) three
              (subst (λ (k : ℕ). TurnsLeft (at (end_of s k)) (neighbor (i + 3)) (neighbor i)) two between.second);
        }

    pub four_turn : length w ≡ 4 → ((e : ℕ) × (0 < count_of e w) × CanFlipInPlane at m.shape (e / 2)) ⊎ ((e : ℕ) × (0 < count_of e w) × LeadsAcross at m.shape e)
    four_turn four = elim (flippable_or_between (at o) neighbor (subst (λ (k : ℕ). IsWheel (at o) neighbor k) four round_wheel)) [
      | inl found ↦ (let few = found.1 in inl (spin (suc found.0), on_list found.0 (omega (arith, few, four)), can_turn found.0 found.2))
      | inr found ↦ (let few = found.1 in inr (spin found.0, listed (ccw_of s) h w trip found.0 (omega (arith, few, four)), leads_across found.0 found.2))
    ]

    pub two_turn : length w ≡ 4 → (e : ℕ) × (0 < count_of e w) × MakesTwo at m.shape e
    two_turn four =
        let found = two_triangles (at o) neighbor (subst (λ (k : ℕ). IsWheel (at o) neighbor k) four round_wheel) in
        let i = found.0 in
        let few = found.1 in
        let two : turns (ccw_of s) (i + 2) h ≡ turns (ccw_of s) 2 (spin i) = ap (λ n. turns (ccw_of s) n h) (let e : i + 2 ≡ 2 + i = omega arith in e) ∙ turns_sum (ccw_of s) 2 i h in
        let one : turns (ccw_of s) (i + 1) h ≡ turns (ccw_of s) 1 (spin i) = ap (λ n. turns (ccw_of s) n h) (let e : i + 1 ≡ 1 + i = omega arith in e) ∙ turns_sum (ccw_of s) 1 i h in
        let three : turns (ccw_of s) (i + 3) h ≡ turns (ccw_of s) 3 (spin i) = ap (λ n. turns (ccw_of s) n h) (let e : i + 3 ≡ 3 + i = omega arith in e) ∙ turns_sum (ccw_of s) 3 i h in (
          spin i,
          listed (ccw_of s) h w trip i (omega (arith, few, four)),
          record {
            first =
                subst (λ (k : ℕ). TurnsLeft (neighbor i) (at (end_of s (turns (ccw_of s) 1 (spin i)))) (at (end_of s k))) two
                (subst (λ (k : ℕ). TurnsLeft (neighbor i) (at (end_of s k)) (neighbor (i + 2))) one found.3);
            second =
                subst (λ (k : ℕ). TurnsLeft (at (end_of s (turns (ccw_of s) 2 (spin i)))) (at (end_of s k)) (neighbor i)) three
                (subst (λ (k : ℕ). TurnsLeft (at (end_of s k)) (neighbor (i + 3)) (neighbor i)) two found.4);
          },
        )

    pub three_turn : length w ≡ 3 → TurnsLeft (at (end_of m.shape h)) (at (end_of m.shape (turns (ccw_of m.shape) 1 h))) (at (end_of m.shape (turns (ccw_of m.shape) 2 h)))
    three_turn three = three_left (at o) neighbor (subst (λ (k : ℕ). IsWheel (at o) neighbor k) three round_wheel)
