-- A corner of the hull that lies between its two neighbors: a flip leaves one flat triangle there, which can be cut off.
use Rattle.std.proofs.Common.{◌≡◌, ◌≢◌, inl, inr, ℕ, zero, suc, ◌<◌, List, length, sym, ap, ◌∙◌, subst, pos, ◌-ℤ◌, ◌<ℤ◌, ◌≤ℤ◌, eq-zero-or-pos, arith}
use Rattle.std.proofs.lemmas.Int.{by_lt_z}
use Rattle.dcel_fixed.specs.HalfEdges.{rev}
use Rattle.dcel_fixed.proofs.Halves.{rev-rev}
use Rattle.dcel_predicates.specs.declared.point.Point.{Point}
use Rattle.dcel_predicates.specs.Determinants.{orient2d_of}
use Rattle.dcel_predicates.proofs.Points.{orient2d-first_swapped, orient2d-turned}
use Rattle.dcel_predicates.proofs.Signs.{ordered}
use Rattle.dcel_maps.specs.Shapes.{IsLive, IsMesh, Mesh, Shape, end_of, face_of, map_of, next_of, origin_of, prev_of}
use Rattle.dcel_maps.specs.Triangulations.{AllTriangles}
use Rattle.dcel_maps.specs.Walking.{IsOutEdge, IsRoundTrip, ListsOnce, ccw_of}
use Rattle.dcel_maps.proofs.maps.Soundness.{rev_live}
use Rattle.dcel_maps.proofs.shapes.Maps.{map-sound}
use Rattle.dcel_maps.proofs.walks.Links.{links_stand, prev-live}
use Rattle.dcel_maps.proofs.words.Reading.{face-prev}
use Rattle.dcel_plane.specs.covering.Covering.{IsConvex, IsHull, Supports, dot}
use Rattle.dcel_plane.specs.removal.Wheels.{turns}
use Rattle.dcel_plane.proofs.covering.Along.{dot_start, long, one_place, placed, sides}
use Rattle.dcel_plane.proofs.removal.Cutting.{IsCutOff, cut_off_convex, cut_off_hull, number_of}
use Rattle.dcel_plane.proofs.covering.Inside.{on_end, on_start}
use Rattle.dcel_plane.proofs.hull.OneLine.{inside_of}
use Rattle.dcel_plane.proofs.removal.Turning.{closes, least}
use Rattle.dcel_plane.proofs.covering.Triangles.{round}
use Rattle.dcel_plane.proofs.removal.Wheels.{summed}

-- on a line, what is neither between a and v nor between v and b, and isn't v, isn't between a and b
not_between : (a v b z : Point) → pos 0 <ℤ dot b b a → orient2d_of a b v ≡ pos 0 → orient2d_of a b z ≡ pos 0 → pos 0 ≤ℤ dot a v z → pos 0 ≤ℤ dot v b z
    → (z.x ≡ v.x → z.y ≡ v.y → ⊥) → pos 0 ≤ℤ dot a b z
not_between a v b z far on_v on_z before after differ =
    by_lt_z (dot a b z) (pos 0)
    (λ less. absurd
    (let places = inside_of a b z far on_z less in
    let low = places.0 in
    let high = places.1 in
    let d = dot_start b a in
    let p = placed a b a v z far (on_end a b) on_v on_z before in
    let q = placed a b v b z far on_v (on_start a b) on_z after in
    let below : dot v b a ≤ℤ dot z b a =
    elim (sides (dot a b a -ℤ dot z b a) (dot v b a -ℤ dot z b a) p) [
      | inl both ↦ absurd (let i = both.0 in omega (arith, ordered, i, d, low))
      | inr both ↦ (let j = both.1 in omega (arith, ordered, j))
    ] in
    let above : dot z b a ≤ℤ dot v b a =
    elim (sides (dot v b a -ℤ dot z b a) (dot b b a -ℤ dot z b a) q) [
      | inl both ↦ (let j = both.0 in omega (arith, ordered, j))
      | inr both ↦ absurd (let i = both.1 in omega (arith, ordered, i, high))
    ] in
    let one = one_place a b z v far on_z on_v (omega (arith, ordered, below, above)) in
    differ one.0 one.1))
    (λ not. not)

module _ {V DE UE F : Type 0} (m : Mesh V DE UE F) (mesh : IsMesh m) (triangles : AllTriangles m.shape) (at : ℕ → Point)
    (convex : IsConvex at m.shape) (hull : IsHull at m.shape) (h : ℕ) (live : IsLive m.shape h) (outer : face_of m.shape h ≡ 0)
    (w : List ℕ) (trip : IsRoundTrip (ccw_of m.shape) h w) (lists : ListsOnce (IsOutEdge m.shape (origin_of m.shape h)) w) (two : length w ≡ 2)
    (flat : orient2d_of (at (origin_of m.shape h)) (at (end_of m.shape (ccw_of m.shape h))) (at (end_of m.shape h)) ≡ pos 0) where
  abbrev s : Shape
  s = m.shape

  abbrev o : ℕ
  o = origin_of m.shape h

  abbrev a : ℕ
  a = ccw_of m.shape h

  abbrev p : ℕ → Point
  p k = at (origin_of s k)

  live_p : IsLive s (prev_of s h)
  live_p = prev-live mesh.sound h live

  on_p : face_of s (prev_of s h) ≡ 0
  on_p = face-prev (map_of s) s.words (links_stand mesh.sound) h live ∙ outer

  ends_p : end_of s (prev_of s h) ≡ o
  ends_p = sym (mesh.sound.joined (prev_of s h) live_p) ∙ ap (origin_of s) ((map-sound mesh.sound).next-prev h live)

  end_a : end_of s (ccw_of m.shape h) ≡ origin_of s (prev_of s h)
  end_a = ap (origin_of s) (rev-rev (prev_of s h))

  comes_back : ccw_of s (ccw_of s h) ≡ h
  comes_back = sym (ap (λ n. turns (ccw_of s) n h) two) ∙ closes (ccw_of s) h w trip

  live_a : IsLive s (ccw_of m.shape h)
  live_a = rev_live (map_of s) (prev_of s h) live_p

  inner_a : 0 < face_of s (ccw_of m.shape h)
  inner_a = elim (eq-zero-or-pos (face_of s (ccw_of m.shape h))) [
    | inr inner ↦ inner
    | inl none ↦ absurd (least (ccw_of s) h w trip 1 (omega arith) (omega (arith, two)) (hull.once (ccw_of s h) h live_a live none outer ends_p))
  ]

  record SideOf (x : ℕ) : Type 0 where
    is : x ≡ next_of s (ccw_of s h)
    start : origin_of s x ≡ origin_of s (prev_of s h)
    end : end_of s x ≡ end_of s h

  side_of : (x b : ℕ) → IsLive s b → origin_of s b ≡ o → 0 < face_of s b → next_of s b ≡ x → SideOf x
  side_of x b live_b from_b inner_b is =
      let (n, below, at_n) = number_of (ccw_of s) h w trip lists b (record { live = live_b; start = from_b }) in
      by_number n (omega (arith, below, two)) at_n
    where
      by_number : (n : ℕ) → n < 2 → turns (ccw_of s) n h ≡ b → SideOf x
      by_number zero below at_n = absurd (let e = ap (face_of s) at_n in omega (arith, e, outer, inner_b))
      by_number (suc zero) below at_n =
          let inner_a : 0 < face_of s (ccw_of s h) = subst (λ (j : ℕ). 0 < face_of s j) (sym at_n) inner_b in
          let tri = round m mesh triangles (ccw_of s h) live_a inner_a in
          let comes : x ≡ next_of s (ccw_of s h) = sym is ∙ ap (next_of s) (sym at_n) in
          let last : prev_of s (ccw_of s h) ≡ rev h = sym (rev-rev (prev_of s (ccw_of s h))) ∙ ap rev comes_back in
          record {
            is = comes;
            start = ap (origin_of s) comes ∙ mesh.sound.joined (ccw_of s h) live_a ∙ end_a;
            end = ap (end_of s) comes ∙ sym (mesh.sound.joined (next_of s (ccw_of s h)) tri.live_y) ∙ ap (origin_of s) tri.next_y ∙ ap (origin_of s) last;
          }
      by_number (suc (suc n)) below at_n = absurd (omega (arith, below))

  -- the new side lies along the two old ones
  along : (z : ℕ) → IsLive s z → origin_of s z ≢ o → Supports (p (prev_of s h)) (at (end_of s h)) (p z)
  along z live_z not_o =
      let u = p (prev_of s h) in
      let v = at o in
      let q = at (end_of s h) in
      let flat' : orient2d_of (at o) (p (prev_of s h)) (at (end_of s h)) ≡ pos 0 = subst (λ (j : ℕ). orient2d_of (at o) (at j) (at (end_of s h)) ≡ pos 0) end_a flat in
      let one : orient2d_of (p (prev_of s h)) (at o) (p z) ≤ℤ pos 0 =
      subst (λ (j : ℕ). orient2d_of (p (prev_of s h)) (at j) (p z) ≤ℤ pos 0) ends_p (convex.supports (prev_of s h) z live_p on_p live_z).0 in
      let two = (convex.supports h z live outer live_z).0 in
      let e = summed (at o) (p (prev_of s h)) (at (end_of s h)) (p z) in
      let f = orient2d-first_swapped (p (prev_of s h)) (at o) (p z) in (
        omega (arith, ordered, e, f, flat', one, two),
        λ zero_turn.
            let on_one : orient2d_of (p (prev_of s h)) (at o) (p z) ≡ pos 0 = omega (arith, ordered, e, f, flat', one, two, zero_turn) in
            let on_two : orient2d_of (at o) (at (end_of s h)) (p z) ≡ pos 0 = omega (arith, ordered, e, f, flat', one, two, zero_turn) in
            let before : pos 0 ≤ℤ dot (p (prev_of s h)) (at o) (p z) =
            subst (λ (j : ℕ). orient2d_of (p (prev_of s h)) (at j) (p z) ≡ pos 0 → pos 0 ≤ℤ dot (p (prev_of s h)) (at j) (p z)) ends_p
            (convex.supports (prev_of s h) z live_p on_p live_z).1 on_one in
            let after = (convex.supports h z live outer live_z).1 on_two in
            let t = orient2d-turned (at o) (p (prev_of s h)) (at (end_of s h)) in
            let far : pos 0 <ℤ dot (at (end_of s h)) (at (end_of s h)) (p (prev_of s h)) =
            long (at (end_of s h)) (p (prev_of s h)) (λ ex ey. not_closed (hull.distinct (rev h) (prev_of s h) (rev_live (map_of s) h live) live_p ex ey)) in
            not_between (p (prev_of s h)) (at o) (at (end_of s h)) (p z) far (omega (arith, ordered, t, flat')) zero_turn before after
            (λ ex ey. not_o (hull.distinct z h live_z live ex ey)),
      )
    where
      -- the outer face doesn't come back at once: then the triangle at the corner would have two corners
      not_closed : end_of s h ≡ origin_of s (prev_of s h) → ⊥
      not_closed same =
          let tri = round m mesh triangles (ccw_of s h) live_a inner_a in
          let last : prev_of s (ccw_of s h) ≡ rev h = sym (rev-rev (prev_of s (ccw_of s h))) ∙ ap rev comes_back in
          let start : origin_of s (next_of s (ccw_of s h)) ≡ origin_of s (prev_of s h) = mesh.sound.joined (ccw_of s h) live_a ∙ end_a in
          let end : end_of s (next_of s (ccw_of s h)) ≡ end_of s h = sym (mesh.sound.joined (next_of s (ccw_of s h)) tri.live_y) ∙ ap (origin_of s) tri.next_y ∙ ap (origin_of s) last in
          mesh.sound.two_ends (next_of s (ccw_of s h)) tri.live_y (start ∙ sym same ∙ sym end)

  module _ (t : Shape) (cut : IsCutOff m.shape t (origin_of m.shape h)) (turned : (x : ℕ) → IsLive t x → IsLive t (rev x)) where
    pub flat_convex : IsConvex at t
    flat_convex =
        cut_off_convex at s t o cut turned convex (λ x z side live_z not_o.
        let f = side_of x side.0 side.1 side.2 side.3 side.4 in
        subst (λ (j : ℕ). Supports (at j) (at (end_of s x)) (p z)) (sym f.start)
        (subst (λ (j : ℕ). Supports (p (prev_of s h)) (at j) (p z)) (sym f.end) (along z live_z not_o)))

    old_side : (x : ℕ) → IsLive t x → face_of s x ≡ 0 → origin_of s x ≡ origin_of s (prev_of s h) → ⊥
    old_side x live_x on_x same =
        let is : x ≡ prev_of s h = hull.once x (prev_of s h) (cut.old x live_x) live_p on_x on_p same in
        cut.none (rev x) (turned x live_x) (cut.same (rev x) (turned x live_x) ∙ ap (end_of s) is ∙ ends_p)

    pub flat_hull : IsHull at t
    flat_hull =
        cut_off_hull at s t o cut turned hull
        (λ x z live_x was side same. old_side x live_x was (same ∙ (side_of z side.0 side.1 side.2 side.3 side.4).start))
        (λ x z side_x side same. (side_of x side_x.0 side_x.1 side_x.2 side_x.3 side_x.4).is ∙ sym (side_of z side.0 side.1 side.2 side.3 side.4).is)
