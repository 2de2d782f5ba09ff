-- When the hull is closed, no half edge of the outer face has the new vertex on its left.
use Rattle.std.proofs.Common.{◌≡◌, ◌≢◌, ◌⊎◌, inl, inr, ℕ, refl, sym, ap, ◌∙◌, subst, pos, ◌<ℤ◌, ◌≤ℤ◌, arith}
use Rattle.std.proofs.lemmas.Bool.{cases_eq}
use Rattle.std.proofs.lemmas.Int.{by_lt_z}
use Rattle.dcel_fixed.specs.HalfEdges.{rev}
use Rattle.dcel_predicates.specs.Determinants.{orient2d_of}
use Rattle.dcel_predicates.specs.declared.point.Point.{Point}
use Rattle.dcel_predicates.proofs.Points.{orient2d-first_swapped, orient2d-turned}
use Rattle.dcel_predicates.proofs.Signs.{ordered}
use Rattle.dcel_maps.specs.Maps.{By, Reaches}
use Rattle.dcel_maps.specs.Maps.Reaches.{go, here}
use Rattle.dcel_maps.specs.Shapes.{IsLive, IsMesh, Mesh, Shape, end_of, face_of, map_of, next_of, origin_of, prev_of}
use Rattle.dcel_maps.proofs.maps.Soundness.{rev_live}
use Rattle.dcel_maps.proofs.shapes.Maps.{map-sound}
use Rattle.dcel_maps.proofs.walks.Links.{links_stand, next-live, prev-live}
use Rattle.dcel_maps.proofs.words.Reading.{face-next, face-prev}
use Rattle.dcel_plane.specs.covering.Covering.{IsConvex, IsHull, dot}
use Rattle.dcel_plane.proofs.covering.Along.{edges_long, long, one_point}
use Rattle.dcel_plane.proofs.covering.Inside.{on_end, on_start}
use Rattle.dcel_plane.specs.hull.Closing.{IsClosedBeside, IsClosing, IsThick}
use Rattle.dcel_plane.proofs.hull.Corners.{back_at_end, back_at_start, last_with}
use Rattle.dcel_plane.proofs.hull.Ends.{closed_by}
use Rattle.dcel_plane.proofs.hull.FirstTriangle.{no_turn}
use Rattle.dcel_plane.proofs.hull.Seeing.{IsSeen, seen_end, seen_or_not, seen_start}
use Rattle.dcel_plane.proofs.hull.Tangents.{after_tangent, before_tangent, one_tangent}

-- a walk of two items
pub of_two : (next : ℕ → ℕ) (a : ℕ) → next (next a) ≡ a → (x y : ℕ) → Reaches (By next) x y → (x ≡ a) ⊎ (x ≡ next a) → (y ≡ a) ⊎ (y ≡ next a)
of_two next a back x y here is = is
of_two next a back x y (go {y = z} step rest) (inl first) = of_two next a back z y rest (inr (sym step ∙ ap next first))
of_two next a back x y (go {y = z} step rest) (inr second) = of_two next a back z y rest (inl (sym step ∙ ap next second ∙ back))

module _ {V DE UE F : Type 0} (m : Mesh V DE UE F) (mesh : IsMesh m) (at : ℕ → Point) (hull : IsHull at m.shape) (t : ℕ)
    (closing : IsClosing at m.shape t) (thick : IsThick at m.shape t) (closed : IsClosedBeside at m.shape t) (h0 : ℕ) (live_0 : IsLive m.shape h0) (on_0 : face_of m.shape h0 ≡ 0) (starts_0 : origin_of m.shape h0 ≡ t) where
  abbrev s : Shape
  s = m.shape

  abbrev p : ℕ → Point
  p h = at (origin_of s h)

  abbrev e : ℕ → Point
  e h = at (end_of s h)

  abbrev Seen : ℕ → Type 0
  Seen = IsSeen at s t

  decide : (h : ℕ) → Seen h ⊎ (¬ Seen h)
  decide = seen_or_not at s t

  not_at_start : (h : ℕ) → Seen h → origin_of s h ≢ t
  not_at_start = seen_start at s t

  not_at_end : (h : ℕ) → Seen h → end_of s h ≢ t
  not_at_end = seen_end at s t

  next_on : (h : ℕ) → IsLive s h → face_of s h ≡ 0 → face_of s (next_of s h) ≡ 0
  next_on h live on = face-next (map_of s) s.words (links_stand mesh.sound) h live ∙ on

  -- were the outer face of two half edges, none were seen
  two_gon : (i : ℕ) → Seen i → end_of s (next_of s h0) ≡ t → ⊥
  two_gon i seen back =
      let j0 = next_of s h0 in
      let live_j0 : IsLive s j0 = next-live mesh.sound h0 live_0 in
      let on_j0 = next_on h0 live_0 on_0 in
      let live_jj : IsLive s (next_of s j0) = next-live mesh.sound j0 live_j0 in
      let again : next_of s j0 ≡ h0 = hull.once (next_of s j0) h0 live_jj live_0 (next_on j0 live_j0 on_j0) on_0 (mesh.sound.joined j0 live_j0 ∙ back ∙ sym starts_0) in
      let walk = ((map-sound mesh.sound).one_face h0 i live_0 seen.live).0 (on_0 ∙ sym seen.on) in
      elim (of_two (next_of s) h0 again h0 i walk (inl refl)) [
        | inl is ↦ not_at_start i seen (ap (origin_of s) is ∙ starts_0)
        | inr is ↦ not_at_end i seen (ap (end_of s) is ∙ back)
      ]

  -- half edges have a length
  far : (h : ℕ) → IsLive s h → pos 0 <ℤ dot (e h) (e h) (p h)
  far = edges_long at s mesh.sound hull.distinct

  far_from : (h : ℕ) (v : ℕ) → IsLive s h → origin_of s h ≡ v → pos 0 <ℤ dot (e h) (e h) (at v)
  far_from h v live is = subst (λ (i : ℕ). pos 0 <ℤ dot (e h) (e h) (at i)) is (far h live)

  -- the hull isn't straight where t goes out of sight
  bends : (i : ℕ) → Seen i → end_of s (next_of s i) ≢ t → orient2d_of (e i) (e (next_of s i)) (at t) ≤ℤ pos 0 → orient2d_of (p i) (e i) (e (next_of s i)) <ℤ pos 0
  bends i seen away unseen =
      let j = next_of s i in
      let live_j : IsLive s j = next-live mesh.sound i seen.live in
      let on_j : face_of s j ≡ 0 = next_on i seen.live seen.on in
      let joined : origin_of s j ≡ end_of s i = mesh.sound.joined i seen.live in
      let old_j : origin_of s j ≢ t = λ z. not_at_end i seen (sym joined ∙ z) in
      let right : orient2d_of (p i) (e i) (e j) ≤ℤ pos 0 = (closing.supports i (rev j) seen.live seen.on (not_at_start i seen) (not_at_end i seen) (rev_live (map_of s) j live_j) away).0 in
      by_lt_z (orient2d_of (p i) (e i) (e j)) (pos 0) (λ less. less)
      (λ not. absurd
      (let straight : orient2d_of (p i) (e i) (e j) ≡ pos 0 = omega (arith, ordered, not, right) in
      let turned : orient2d_of (e i) (e j) (p i) ≡ pos 0 = orient2d-turned (p i) (e i) (e j) ∙ straight in
      let first : pos 0 ≤ℤ dot (e i) (e j) (p i) =
      subst (λ (v : ℕ). orient2d_of (at v) (e j) (p i) ≡ pos 0 → pos 0 ≤ℤ dot (at v) (e j) (p i)) joined
      (closing.supports j i live_j on_j old_j away seen.live (not_at_start i seen)).1 turned in
      let second : pos 0 ≤ℤ dot (p i) (e i) (e j) =
      (closing.supports i (rev j) seen.live seen.on (not_at_start i seen) (not_at_end i seen) (rev_live (map_of s) j live_j) away).1 straight in
      let back = back_at_start (p i) (e i) (e j) (at t) straight seen.seen unseen (far i seen.live) (far_from j (end_of s i) live_j joined) first second in
      let same : end_of s j ≡ origin_of s i = hull.distinct (rev j) i (rev_live (map_of s) j live_j) seen.live back.0 back.1 in
      let live_jj : IsLive s (next_of s j) = next-live mesh.sound j live_j in
      let again : next_of s j ≡ i = hull.once (next_of s j) i live_jj seen.live (next_on j live_j on_j) seen.on (mesh.sound.joined j live_j ∙ same) in
      let walk = ((map-sound mesh.sound).one_face i h0 seen.live live_0).0 (seen.on ∙ sym on_0) in
      elim (of_two (next_of s) i again i h0 walk (inl refl)) [
        | inl is ↦ not_at_start i seen (ap (origin_of s) (sym is) ∙ starts_0)
        | inr is ↦ old_j (ap (origin_of s) (sym is) ∙ starts_0)
      ]))

  -- old vertices don't all lie on one line
  not_thin : (a u : Point) → ((k : ℕ) → IsLive s k → origin_of s k ≢ t → orient2d_of a u (p k) ≡ pos 0) → (a.x ≡ u.x → a.y ≡ u.y → ⊥) → ⊥
  not_thin a u on apart =
      let one = one_point (p thick.i) (p thick.j) (p thick.k) a u thick.turn (on thick.i thick.live_i thick.old_i) (on thick.j thick.live_j thick.old_j) (on thick.k thick.live_k thick.old_k) in
      apart one.0 one.1

  same_end : (a u w k : Point) → w.x ≡ a.x → w.y ≡ a.y → orient2d_of u w k ≡ orient2d_of u a k
  same_end a u w k ex ey = rw (ex, ey) refl

  same_start : (r v b k : Point) → b.x ≡ r.x → b.y ≡ r.y → orient2d_of v b k ≡ orient2d_of v r k
  same_start r v b k ex ey = rw (ex, ey) refl

  bends_after : (h : ℕ) (live : IsLive s h) (on : face_of s h ≡ 0) (starts : origin_of s h ≡ t) → orient2d_of (at (closing.after h live on starts).a) (e h) (e (next_of s h)) <ℤ pos 0
  bends_after h live on starts =
      let after = closing.after h live on starts in
      let a = at after.a in
      let j = next_of s h in
      let live_j : IsLive s j = next-live mesh.sound h live in
      let on_j : face_of s j ≡ 0 = next_on h live on in
      let joined : origin_of s j ≡ end_of s h = mesh.sound.joined h live in
      let old_j : origin_of s j ≢ t = λ z. mesh.sound.two_ends h live (starts ∙ sym z ∙ joined) in
      let away : end_of s j ≢ t = λ z.
      (let b : orient2d_of (e h) (at t) (e h) <ℤ pos 0 = subst (λ (v : ℕ). orient2d_of (at v) (at t) (e h) <ℤ pos 0) joined (closing.tip h j live on starts live_j on_j z) in
      let o = on_end (e h) (at t) in omega (arith, ordered, b, o)) in
      let old_a : origin_of s after.side ≢ t = λ z.
      (let b : pos 0 <ℤ orient2d_of (at t) (e h) (at t) = subst (λ (v : ℕ). pos 0 <ℤ orient2d_of (at v) (e h) (at t)) (sym after.from ∙ z) after.seen in
      let o = on_end (at t) (e h) in omega (arith, ordered, b, o)) in
      let differ : a.x ≡ (e h).x → a.y ≡ (e h).y → ⊥ = λ ex ey. (let z = no_turn a (e h) (at t) ex ey in let q = after.seen in omega (arith, ordered, z, q)) in
      let right : orient2d_of a (e h) (e j) ≤ℤ pos 0 = (after.supports (rev j) (rev_live (map_of s) j live_j) away).0 in
      by_lt_z (orient2d_of a (e h) (e j)) (pos 0) (λ less. less)
      (λ not. absurd
      (let straight : orient2d_of a (e h) (e j) ≡ pos 0 = omega (arith, ordered, not, right) in
      let turned : orient2d_of (e h) (e j) a ≡ pos 0 = orient2d-turned a (e h) (e j) ∙ straight in
      let first : pos 0 ≤ℤ dot (e h) (e j) a =
      subst (λ (c : ℕ). orient2d_of (e h) (e j) (at c) ≡ pos 0 → pos 0 ≤ℤ dot (e h) (e j) (at c)) after.from
      (subst (λ (v : ℕ). orient2d_of (at v) (e j) (p after.side) ≡ pos 0 → pos 0 ≤ℤ dot (at v) (e j) (p after.side)) joined
      (closing.supports j after.side live_j on_j old_j away after.live_side old_a).1) turned in
      let second : pos 0 ≤ℤ dot a (e h) (e j) = (after.supports (rev j) (rev_live (map_of s) j live_j) away).1 straight in
      let back = back_at_start a (e h) (e j) (at t) straight after.seen (closed.after h live on starts)
      (long (e h) a (λ ex ey. differ (sym ex) (sym ey))) (far_from j (end_of s h) live_j joined) first second in
      not_thin a (e h)
      (λ k live_k old_k.
      let one = (after.supports k live_k old_k).0 in
      let two : orient2d_of (e h) (e j) (p k) ≤ℤ pos 0 =
      subst (λ (v : ℕ). orient2d_of (at v) (e j) (p k) ≤ℤ pos 0) joined (closing.supports j k live_j on_j old_j away live_k old_k).0 in
      let three = same_end a (e h) (e j) (p k) back.0 back.1 in
      let four = orient2d-first_swapped a (e h) (p k) in
      omega (arith, ordered, one, two, three, four))
      differ))

  bends_before : (h : ℕ) (live : IsLive s h) (on : face_of s h ≡ 0) (ends : end_of s h ≡ t) → orient2d_of (p (prev_of s h)) (p h) (at (closing.before h live on ends).b) <ℤ pos 0
  bends_before h live on ends =
      let before = closing.before h live on ends in
      let b = at before.b in
      let i = prev_of s h in
      let live_i : IsLive s i = prev-live mesh.sound h live in
      let on_i : face_of s i ≡ 0 = face-prev (map_of s) s.words (links_stand mesh.sound) h live ∙ on in
      let joined : origin_of s h ≡ end_of s i = ap (origin_of s) (sym ((map-sound mesh.sound).next-prev h live)) ∙ mesh.sound.joined i live_i in
      let end_i : end_of s i ≢ t = λ z. mesh.sound.two_ends h live (joined ∙ z ∙ sym ends) in
      let away : origin_of s i ≢ t = λ z.
      (let q : orient2d_of (p h) (at t) (p h) <ℤ pos 0 = subst (λ (v : ℕ). orient2d_of (p h) (at t) (at v) <ℤ pos 0) (sym joined) (closing.tip i h live_i on_i z live on ends) in
      let o = on_end (p h) (at t) in omega (arith, ordered, q, o)) in
      let old_b : end_of s before.side ≢ t = λ z.
      (let q : pos 0 <ℤ orient2d_of (p h) (at t) (at t) = subst (λ (v : ℕ). pos 0 <ℤ orient2d_of (p h) (at v) (at t)) (sym before.to ∙ z) before.seen in
      let o = on_start (p h) (at t) in omega (arith, ordered, q, o)) in
      let differ : (p h).x ≡ b.x → (p h).y ≡ b.y → ⊥ = λ ex ey. (let z = no_turn (p h) b (at t) ex ey in let q = before.seen in omega (arith, ordered, z, q)) in
      let none : orient2d_of (p h) b (p i) ≤ℤ pos 0 = (before.supports i live_i away).0 in
      let turned : orient2d_of (p h) b (p i) ≡ orient2d_of (p i) (p h) b = orient2d-turned (p i) (p h) b in
      by_lt_z (orient2d_of (p i) (p h) b) (pos 0) (λ less. less)
      (λ not. absurd
      (let straight : orient2d_of (p i) (p h) b ≡ pos 0 = omega (arith, ordered, not, none, turned) in
      let first : pos 0 ≤ℤ dot (p h) b (p i) = (before.supports i live_i away).1 (turned ∙ straight) in
      let second : pos 0 ≤ℤ dot (p i) (p h) b =
      subst (λ (c : ℕ). orient2d_of (p i) (p h) (at c) ≡ pos 0 → pos 0 ≤ℤ dot (p i) (p h) (at c)) before.to
      (subst (λ (v : ℕ). orient2d_of (p i) (at v) (e before.side) ≡ pos 0 → pos 0 ≤ℤ dot (p i) (at v) (e before.side)) (sym joined)
      (closing.supports i (rev before.side) live_i on_i away end_i (rev_live (map_of s) before.side before.live_side) old_b).1) straight in
      let back = back_at_end (p i) (p h) b (at t) straight (closed.before h live on ends) before.seen
      (subst (λ (v : ℕ). pos 0 <ℤ dot (at v) (at v) (p i)) (sym joined) (far i live_i)) (long b (p h) (λ ex ey. differ (sym ex) (sym ey))) first second in
      not_thin (p h) b
      (λ k live_k old_k.
      let one = (before.supports k live_k old_k).0 in
      let two : orient2d_of (p i) (p h) (p k) ≤ℤ pos 0 =
      subst (λ (v : ℕ). orient2d_of (p i) (at v) (p k) ≤ℤ pos 0) (sym joined) (closing.supports i k live_i on_i away end_i live_k old_k).0 in
      let three = same_start (p i) (p h) b (p k) back.0 back.1 in
      let four = orient2d-first_swapped (p i) (p h) (p k) in
      omega (arith, ordered, one, two, three, four))
      differ))

  pub none_seen : (h : ℕ) → Seen h → ⊥
  none_seen h is =
      let sound = map-sound mesh.sound in
      let walk = (sound.one_face h h0 is.live live_0).0 (is.on ∙ sym on_0) in
      let found = last_with (next_of s) Seen decide h h0 walk is (λ first. not_at_start h0 first starts_0) in
      last found.0 found.1 found.2
    where
      last : (i : ℕ) → Seen i → ¬ Seen (next_of s i) → ⊥
      last i seen not_next =
          let j = next_of s i in
          let live_j : IsLive s j = next-live mesh.sound i seen.live in
          let on_j = next_on i seen.live seen.on in
          let j0 = next_of s h0 in
          let live_j0 : IsLive s j0 = next-live mesh.sound h0 live_0 in
          let on_j0 = next_on h0 live_0 on_0 in
          let joined_i : origin_of s j ≡ end_of s i = mesh.sound.joined i seen.live in
          let joined_0 : origin_of s j0 ≡ end_of s h0 = mesh.sound.joined h0 live_0 in
          let old_j : origin_of s j ≢ t = λ z. not_at_end i seen (sym joined_i ∙ z) in
          let old_j0 : origin_of s j0 ≢ t = λ z. mesh.sound.two_ends h0 live_0 (starts_0 ∙ sym z ∙ joined_0) in
          let unseen : orient2d_of (p j) (e j) (at t) ≤ℤ pos 0 = by_lt_z (pos 0) (orient2d_of (p j) (e j) (at t)) (λ more. absurd (not_next (record { live = live_j; on = on_j; seen = more }))) (λ z. z) in
          let not_to_t : end_of s j ≢ t = λ z.
          let back : prev_of s j ≡ i = (map-sound mesh.sound).prev-next i seen.live in
          let b = closed.before j live_j on_j z in
          let b' : orient2d_of (p i) (e i) (at t) ≤ℤ pos 0 =
          subst (λ (v : ℕ). orient2d_of (p i) (at v) (at t) ≤ℤ pos 0) joined_i (subst (λ (v : ℕ). orient2d_of (p v) (p j) (at t) ≤ℤ pos 0) back b) in
          let q = seen.seen in omega (arith, ordered, b', q) in
          let after = closing.after h0 live_0 on_0 starts_0 in
          let bend_0 = bends_after h0 live_0 on_0 starts_0 in
          let no_0 = closed.after h0 live_0 on_0 starts_0 in
          let unseen' : orient2d_of (e i) (e j) (at t) ≤ℤ pos 0 = subst (λ (v : ℕ). orient2d_of (at v) (e j) (at t) ≤ℤ pos 0) joined_i unseen in
          let bend_i = bends i seen not_to_t unseen' in
          let first_i : orient2d_of (p i) (e i) (p j0) ≤ℤ pos 0 = (closing.supports i j0 seen.live seen.on (not_at_start i seen) (not_at_end i seen) live_j0 old_j0).0 in
          let second_i : orient2d_of (e i) (e j) (p j0) ≤ℤ pos 0 =
          subst (λ (v : ℕ). orient2d_of (at v) (e j) (p j0) ≤ℤ pos 0) joined_i (closing.supports j j0 live_j on_j old_j not_to_t live_j0 old_j0).0 in
          let at_i : orient2d_of (at t) (e i) (p j0) ≤ℤ pos 0 = after_tangent (p i) (e i) (e j) (at t) (p j0) seen.seen unseen' first_i second_i bend_i in
          let first_0 : orient2d_of (at after.a) (e h0) (p j) ≤ℤ pos 0 = (after.supports j live_j old_j).0 in
          at_both i seen live_j on_j live_j0 on_j0 joined_i joined_0 old_j at_i first_i first_0 after.seen no_0 bend_0
        where
          at_both : (i : ℕ) → Seen i → IsLive s (next_of s i) → face_of s (next_of s i) ≡ 0 → IsLive s (next_of s h0) → face_of s (next_of s h0) ≡ 0
              → origin_of s (next_of s i) ≡ end_of s i → origin_of s (next_of s h0) ≡ end_of s h0 → origin_of s (next_of s i) ≢ t
              → orient2d_of (at t) (e i) (p (next_of s h0)) ≤ℤ pos 0 → orient2d_of (p i) (e i) (p (next_of s h0)) ≤ℤ pos 0
              → orient2d_of (at (closing.after h0 live_0 on_0 starts_0).a) (e h0) (p (next_of s i)) ≤ℤ pos 0
              → pos 0 <ℤ orient2d_of (at (closing.after h0 live_0 on_0 starts_0).a) (e h0) (at t)
              → orient2d_of (e h0) (e (next_of s h0)) (at t) ≤ℤ pos 0
              → orient2d_of (at (closing.after h0 live_0 on_0 starts_0).a) (e h0) (e (next_of s h0)) <ℤ pos 0 → ⊥
          at_both i seen live_j on_j live_j0 on_j0 joined_i joined_0 old_j at_i first_i first_0 seen_0 no_0 bend_0 =
              let j = next_of s i in
              let j0 = next_of s h0 in
              let a = at (closing.after h0 live_0 on_0 starts_0).a in
              let uj : p j0 ≡ e h0 = ap at joined_0 in
              let yj : p j ≡ e i = ap at joined_i in
              let second_0 : orient2d_of (e h0) (e j0) (p j) ≤ℤ pos 0 =
              by_ends (cases_eq (end_of s j0) t) in
              let at_0 : orient2d_of (at t) (e h0) (p j) ≤ℤ pos 0 = after_tangent a (e h0) (e j0) (at t) (p j) seen_0 no_0 first_0 second_0 bend_0 in
              let one = one_tangent a (e h0) (p i) (e i) (at t) seen_0 (subst (λ (q : Point). orient2d_of a (e h0) q ≤ℤ pos 0) yj first_0) seen.seen
              (subst (λ (q : Point). orient2d_of (p i) (e i) q ≤ℤ pos 0) uj first_i)
              (subst (λ (q : Point). orient2d_of (at t) (e h0) q ≤ℤ pos 0) yj at_0) (subst (λ (q : Point). orient2d_of (at t) (e i) q ≤ℤ pos 0) uj at_i) in
              let same : origin_of s j0 ≡ origin_of s j = hull.distinct j0 j live_j0 live_j
              (ap (λ (q : Point). q.x) uj ∙ one.0 ∙ sym (ap (λ (q : Point). q.x) yj)) (ap (λ (q : Point). q.y) uj ∙ one.1 ∙ sym (ap (λ (q : Point). q.y) yj)) in
              let one_edge : j0 ≡ j = hull.once j0 j live_j0 live_j on_j0 on_j same in
              let sound = map-sound mesh.sound in
              let back : h0 ≡ i = sym (sound.prev-next h0 live_0) ∙ ap (prev_of s) one_edge ∙ sound.prev-next i seen.live in
              not_at_start i seen (ap (origin_of s) (sym back) ∙ starts_0)
            where
              by_ends : (end_of s (next_of s h0) ≡ t) ⊎ (end_of s (next_of s h0) ≢ t) → orient2d_of (e h0) (e (next_of s h0)) (p (next_of s i)) ≤ℤ pos 0
              by_ends (inr away) =
                  subst (λ (v : ℕ). orient2d_of (at v) (e (next_of s h0)) (p (next_of s i)) ≤ℤ pos 0) joined_0
                  (closing.supports (next_of s h0) (next_of s i) live_j0 on_j0 (λ z. mesh.sound.two_ends h0 live_0 (starts_0 ∙ sym z ∙ joined_0)) away live_j old_j).0
              by_ends (inl back) =
                  absurd (two_gon i seen back)

  unseen : (h : ℕ) → IsLive s h → face_of s h ≡ 0 → orient2d_of (p h) (e h) (at t) ≤ℤ pos 0
  unseen h live on = by_lt_z (pos 0) (orient2d_of (p h) (e h) (at t)) (λ more. absurd (none_seen h (record { live = live; on = on; seen = more }))) (λ not. not)

  from_t : (h k : ℕ) → IsLive s h → face_of s h ≡ 0 → origin_of s h ≡ t → IsLive s k → origin_of s k ≢ t → orient2d_of (at t) (e h) (p k) ≤ℤ pos 0
  from_t h k live on starts live_k old =
      let a = closing.after h live on starts in
      let j = next_of s h in
      let live_j : IsLive s j = next-live mesh.sound h live in
      let joined : origin_of s j ≡ end_of s h = mesh.sound.joined h live in
      let bend = bends_after h live on starts in
      let away : end_of s j ≢ t = λ z.
      let b : orient2d_of (at a.a) (e h) (at t) <ℤ pos 0 = subst (λ (v : ℕ). orient2d_of (at a.a) (e h) (at v) <ℤ pos 0) z bend in
      let q = a.seen in omega (arith, ordered, b, q) in
      let second : orient2d_of (e h) (e j) (p k) ≤ℤ pos 0 =
      subst (λ (v : ℕ). orient2d_of (at v) (e j) (p k) ≤ℤ pos 0) joined
      (closing.supports j k live_j (next_on h live on) (λ z. mesh.sound.two_ends h live (starts ∙ sym z ∙ joined)) away live_k old).0 in
      after_tangent (at a.a) (e h) (e j) (at t) (p k) a.seen (closed.after h live on starts) (a.supports k live_k old).0 second bend

  to_t : (h k : ℕ) → IsLive s h → face_of s h ≡ 0 → end_of s h ≡ t → IsLive s k → origin_of s k ≢ t → orient2d_of (p h) (at t) (p k) ≤ℤ pos 0
  to_t h k live on ends live_k old =
      let b = closing.before h live on ends in
      let i = prev_of s h in
      let live_i : IsLive s i = prev-live mesh.sound h live in
      let on_i : face_of s i ≡ 0 = face-prev (map_of s) s.words (links_stand mesh.sound) h live ∙ on in
      let sound = map-sound mesh.sound in
      let joined : origin_of s h ≡ end_of s i = ap (origin_of s) (sym (sound.next-prev h live)) ∙ mesh.sound.joined i live_i in
      let bend = bends_before h live on ends in
      let away : origin_of s i ≢ t = λ z.
      let c : orient2d_of (at t) (p h) (at b.b) <ℤ pos 0 = subst (λ (v : ℕ). orient2d_of (at v) (p h) (at b.b) <ℤ pos 0) z bend in
      let turned = orient2d-turned (at t) (p h) (at b.b) in
      let q = b.seen in omega (arith, ordered, c, turned, q) in
      let first : orient2d_of (p i) (p h) (p k) ≤ℤ pos 0 =
      subst (λ (v : ℕ). orient2d_of (p i) (at v) (p k) ≤ℤ pos 0) (sym joined)
      (closing.supports i k live_i on_i away (λ z. mesh.sound.two_ends h live (joined ∙ z ∙ sym ends)) live_k old).0 in
      before_tangent (p i) (p h) (at b.b) (at t) (p k) (closed.before h live on ends) b.seen first (b.supports k live_k old).0 bend

  pub closed_convex : IsConvex at s
  closed_convex = closed_by m at t closing unseen from_t to_t h0 live_0 on_0 starts_0
