-- Vertices on one line: from each of two an edge leads along the segment to the other one.
use Rattle.std.proofs.Common.{◌≡◌, ◌≢◌, inl, inr, [], ◌∷◌, ℕ, ℤ, pos, ◌-ℤ◌, ◌*ℤ◌, ◌<ℤ◌, ◌≤ℤ◌, refl, sym, ap, ◌∙◌, subst, arith}
use Rattle.std.proofs.lemmas.Int.{by_lt_z}
use Rattle.dcel_fixed.specs.HalfEdges.{rev}
use Rattle.dcel_fixed.proofs.Halves.{rev-rev}
use Rattle.dcel_predicates.specs.declared.point.Point.{Point}
use Rattle.dcel_predicates.specs.Determinants.{orient2d_of}
use Rattle.dcel_predicates.proofs.Points.{orient2d-last_swapped}
use Rattle.dcel_predicates.proofs.Ring.{by_terms, minus, num, plus, times as by}
use Rattle.dcel_predicates.proofs.Signs.{both_negative, ordered, times}
use Rattle.dcel_predicates.proofs.Terms.{spot}
use Rattle.dcel_maps.specs.Shapes.{IsLive, IsMesh, Mesh, Shape, end_of, map_of, origin_of}
use Rattle.dcel_maps.proofs.maps.Soundness.{rev_live}
use Rattle.dcel_plane.specs.covering.Covering.{dot}
use Rattle.dcel_plane.proofs.covering.Along.{by_place, dot_in, long, no_height, one_place}
use Rattle.dcel_plane.proofs.covering.Inside.{on_end, on_start}
use Rattle.dcel_plane.proofs.covering.Products.{below_times, times_below}
use Rattle.dcel_plane.specs.hull.Straight.{IsStraight, dot_of_steps}
use Rattle.dcel_plane.specs.segments.Segments.{AreEnds, LeadsAlong, orient2d_by}
use Rattle.dcel_constrained.proofs.Between.{apart_placed, at_start, inside_up}

module _ {V DE UE F : Type 0} (m : Mesh V DE UE F) (mesh : IsMesh m) (at : ℕ → Point) (straight : IsStraight at m.shape) (v w : ℕ) (differ : v ≢ w) (ends : AreEnds m.shape v w) where
  abbrev s : Shape
  s = m.shape

  pub straight_apart : pos 0 <ℤ dot (at w) (at w) (at v)
  straight_apart =
      subst (λ (i : ℕ). pos 0 <ℤ dot (at w) (at w) (at i)) ends.from_i
      (subst (λ (i : ℕ). pos 0 <ℤ dot (at i) (at i) (at (origin_of s ends.i))) ends.from_j
      (long (at (origin_of s ends.j)) (at (origin_of s ends.i))
      (λ ex ey. differ (sym ends.from_i ∙ sym (straight.distinct ends.j ends.i ends.live_j ends.live_i ex ey) ∙ ends.from_j))))

  abbrev far : pos 0 <ℤ dot (at w) (at w) (at v)
  far = straight_apart

  -- how far along the segment
  abbrev place : ℕ → ℤ
  place k = dot (at k) (at w) (at v)

  -- a half edge from v
  module _ (h : ℕ) (live : IsLive m.shape h) (from : origin_of m.shape h ≡ v) where
    abbrev e : ℕ
    e = end_of m.shape h

    on : orient2d_by at v w e ≡ pos 0
    on =
        (let a = subst (λ (i : ℕ). orient2d_of (at i) (at e) (at w) ≡ pos 0) from
        (subst (λ (i : ℕ). orient2d_of (at (origin_of s h)) (at e) (at i) ≡ pos 0) ends.from_j (straight.line h ends.j live ends.live_j)) in
        let b = orient2d-last_swapped (at v) (at e) (at w) in
        omega (arith, ordered, a, b))

    not_over : place e ≤ℤ place w
    not_over =
        by_lt_z (place w) (place e)
        (λ more. absurd
        (let a = subst (λ (i : ℕ). pos 0 ≤ℤ dot (at i) (at e) (at w)) from
        (subst (λ (i : ℕ). pos 0 ≤ℤ dot (at (origin_of s h)) (at e) (at i)) ends.from_j (straight.between h ends.j live ends.live_j)) in
        let p = apart_placed (at v) (at w) far (at v) (at e) (at w) (on_end (at v) (at w)) on (on_start (at v) (at w)) in
        let z = at_start (at v) (at w) in
        let f = far in
        let t = below_times (place v -ℤ place w) (place e -ℤ place w) (omega (arith, ordered, z, f)) (omega (arith, ordered, more)) in
        let u = times (place w) (dot (at v) (at e) (at w)) (omega (arith, ordered, f)) a in
        omega (arith, ordered, p, t, u)))
        (λ not. not)

    ahead_leads : pos 0 <ℤ place e → LeadsAlong at s v w h
    ahead_leads ahead = record {
      live = live;
      from = from;
      on = on;
      ahead =
          by_lt_z (place e) (place w)
          (λ less. inr (inside_up (at v) (at w) far (at v) (at w) (at e) (on_end (at v) (at w)) (on_start (at v) (at w)) on (let z = at_start (at v) (at w) in omega (arith, ordered, z, ahead)) less))
          (λ not. inl
          (let n = not_over in
          let one = one_place (at v) (at w) (at e) (at w) far on (on_start (at v) (at w)) (omega (arith, ordered, n, not)) in
          straight.distinct (rev h) ends.j (rev_live (map_of s) h live) ends.live_j (one.0 ∙ sym (ap (λ (k : ℕ). (at k).x) ends.from_j)) (one.1 ∙ sym (ap (λ (k : ℕ). (at k).y) ends.from_j))
          ∙ ends.from_j));
    }

  -- the point c lies beyond b as seen from a where a lies on the other side
  beyond_is : (a b c : Point) → dot_of_steps a b c ≡ pos 0 -ℤ dot a c b
  beyond_is a b c =
      by_terms (a.x ∷ a.y ∷ b.x ∷ b.y ∷ c.x ∷ c.y ∷ [])
      (plus (by (minus (spot 1).x (spot 0).x) (minus (spot 2).x (spot 1).x)) (by (minus (spot 1).y (spot 0).y) (minus (spot 2).y (spot 1).y)))
      (minus (num (pos 0)) (dot_in (spot 0) (spot 2) (spot 1))) refl

  -- an edge that leads away from w has one beside it that leads towards it
  turned_round : place (end_of s ends.i) <ℤ pos 0 → (h : ℕ) × LeadsAlong at s v w h
  turned_round away =
      let u = end_of s ends.i in
      let back : end_of s (rev ends.i) ≡ v = ap (origin_of s) (rev-rev ends.i) ∙ ends.from_i in
      let seen : pos 0 <ℤ dot_of_steps (at u) (at v) (at w) = (let e = beyond_is (at u) (at v) (at w) in omega (arith, ordered, e, away)) in
      let next = straight.onward (rev ends.i) ends.j (rev_live (map_of s) ends.i ends.live_i) ends.live_j
      (subst (λ (k : ℕ). pos 0 <ℤ dot_of_steps (at u) (at k) (at (origin_of s ends.j))) (sym back) (subst (λ (k : ℕ). pos 0 <ℤ dot_of_steps (at u) (at v) (at k)) (sym ends.from_j) seen)) in
      let from : origin_of s next.0 ≡ v = next.2 ∙ back in
      let further : pos 0 <ℤ dot_of_steps (at u) (at v) (at (end_of s next.0)) = subst (λ (k : ℕ). pos 0 <ℤ dot_of_steps (at u) (at k) (at (end_of s next.0))) back next.3 in (
        next.0,
        ahead_leads next.0 next.1 from
            (opposite (place (end_of s ends.i)) (place (end_of s next.0)) away
            (let p = by_place (at v) (at w) (at u) (at (end_of s next.0)) (at v) far (on_i ends.i ends.live_i ends.from_i) (on_i next.0 next.1 from) (on_end (at v) (at w)) in
            let n = no_height (at v) (at w) (at u) (at (end_of s next.0)) (at v) far (on_i ends.i ends.live_i ends.from_i) (on_i next.0 next.1 from) (on_end (at v) (at w)) in
            let e = beyond_is (at u) (at v) (at (end_of s next.0)) in
            let t = times_below (place w) (dot (at u) (at (end_of s next.0)) (at v)) far (omega (arith, ordered, e, further)) in
            shifted (place (end_of s ends.i)) (place (end_of s next.0)) (place v) (at_start (at v) (at w)) (omega (arith, ordered, p, n, t)))),
      )
    where
      on_i : (h : ℕ) → IsLive s h → origin_of s h ≡ v → orient2d_by at v w (end_of s h) ≡ pos 0
      on_i h live from = on h live from

      shifted : (a b z : ℤ) → z ≡ pos 0 → ((a -ℤ z) *ℤ (b -ℤ z)) <ℤ pos 0 → (a *ℤ b) <ℤ pos 0
      shifted a b z none = subst (λ (k : ℤ). (k *ℤ (b -ℤ z)) <ℤ pos 0 → (a *ℤ b) <ℤ pos 0) (let e : a ≡ a -ℤ z = omega (arith, ordered, none) in e)
          (subst (λ (k : ℤ). (a *ℤ k) <ℤ pos 0 → (a *ℤ b) <ℤ pos 0) (let e : b ≡ b -ℤ z = omega (arith, ordered, none) in e) (λ is. is))

      opposite : (a b : ℤ) → a <ℤ pos 0 → (a *ℤ b) <ℤ pos 0 → pos 0 <ℤ b
      opposite a b ha product =
          by_lt_z (pos 0) b (λ more. more) (λ not. absurd (let t = both_negative a b (omega (arith, ordered, ha)) not in omega (arith, ordered, t, product)))

  pub some_along : (h : ℕ) × LeadsAlong at s v w h
  some_along =
      by_lt_z (pos 0) (place (end_of s ends.i)) (λ more. (ends.i, ahead_leads ends.i ends.live_i ends.from_i more))
      (λ not. by_lt_z (place (end_of s ends.i)) (pos 0) (λ less. turned_round less)
      (λ nor. absurd
      (let one = one_place (at v) (at w) (at (end_of s ends.i)) (at v) far (on ends.i ends.live_i ends.from_i) (on_end (at v) (at w)) (let z = at_start (at v) (at w) in omega (arith, ordered, z, not, nor)) in
      mesh.sound.two_ends ends.i ends.live_i
      (sym (straight.distinct (rev ends.i) ends.i (rev_live (map_of s) ends.i ends.live_i) ends.live_i (one.0 ∙ sym (ap (λ (k : ℕ). (at k).x) ends.from_i)) (one.1 ∙ sym (ap (λ (k : ℕ). (at k).y) ends.from_i)))))))
