-- So at the end of a closing from a line the outer face is a convex hull: all old half edges on the new vertex's side are closed away.
use Rattle.std.proofs.Common.{◌≡◌, ◌≢◌, ◌⊎◌, inl, inr, ℕ, sym, ap, ◌∙◌, subst, ℤ, pos, ◌+ℤ◌, ◌-ℤ◌, ◌*ℤ◌, ◌<ℤ◌, ◌≤ℤ◌, arith}
use Rattle.std.proofs.lemmas.Bool.{cases_eq}
use Rattle.std.proofs.lemmas.Int.{by_lt_z}
use Rattle.std.proofs.Math.IntN.{*ℤ_comm}
use Rattle.dcel_fixed.specs.HalfEdges.{rev}
use Rattle.dcel_fixed.proofs.Halves.{rev-rev}
use Rattle.dcel_predicates.specs.Determinants.{orient2d_of}
use Rattle.dcel_predicates.specs.declared.point.Point.{Point}
use Rattle.dcel_predicates.proofs.Points.{orient2d-first_swapped}
use Rattle.dcel_predicates.proofs.Signs.{ordered, times_positive}
use Rattle.dcel_maps.specs.Shapes.{IsLive, IsMesh, Mesh, Shape, end_of, face_of, map_of, next_of, origin_of, prev_of}
use Rattle.dcel_maps.specs.Triangulations.{AllTriangles}
use Rattle.dcel_maps.proofs.maps.Soundness.{rev_live}
use Rattle.dcel_maps.proofs.shapes.Maps.{map-sound}
use Rattle.dcel_maps.proofs.walks.Links.{links_stand, next-live}
use Rattle.dcel_maps.proofs.words.Reading.{face-next}
use Rattle.dcel_plane.specs.Plane.{TrianglesTurnLeft}
use Rattle.dcel_plane.specs.covering.Covering.{IsConvex, IsHull, dot}
use Rattle.dcel_plane.proofs.covering.Along.{none_first, none_second, one_place, one_point}
use Rattle.dcel_plane.proofs.covering.Inside.{on_start}
use Rattle.dcel_plane.proofs.covering.Products.{both_below, times_below}
use Rattle.dcel_plane.specs.hull.Closing.{IsClosedBeside, IsClosing, IsThin}
use Rattle.dcel_plane.specs.hull.Straight.{dot_of_steps}
use Rattle.dcel_plane.proofs.hull.Seeing.{IsSeen, seen_end, seen_or_not, seen_start}
use Rattle.dcel_plane.proofs.hull.Corners.{last_with, slope}
use Rattle.dcel_plane.proofs.hull.Ends.{closed_by}
use Rattle.dcel_plane.proofs.hull.Thin as after
use Rattle.dcel_plane.proofs.hull.ThinBefore as before

-- y stands at u where it isn't beyond it, nor before it
at_point : (a u y t : Point) → pos 0 <ℤ dot u u a → orient2d_of a u y ≡ pos 0 → pos 0 <ℤ orient2d_of a u t → orient2d_of u y t ≡ pos 0 → (y.x ≡ u.x) × (y.y ≡ u.y)
at_point a u y t far on seen none =
    let g = ((u.x -ℤ a.x) *ℤ (t.x -ℤ u.x)) +ℤ ((u.y -ℤ a.y) *ℤ (t.y -ℤ u.y)) in
    let e = slope a u y t on in
    let n = none_first (orient2d_of a u y) g on in
    let o = none_second (dot u u a) (orient2d_of u y t) none in
    let c = *ℤ_comm (dot_of_steps a u y) (orient2d_of a u t) in
    let zero_beyond = nothing (dot_of_steps a u y) (orient2d_of a u t) (dot u u a *ℤ orient2d_of u y t) (orient2d_of a u y *ℤ g) e n o seen in
    let f = after.past_end a u y in
    one_place a u y u far on (on_start a u) (omega (arith, ordered, zero_beyond, f))
  where
    nothing : (d w k m : ℤ) → k ≡ (d *ℤ w) -ℤ m → m ≡ pos 0 → k ≡ pos 0 → pos 0 <ℤ w → d ≡ pos 0
    nothing d w k m e zero none hw =
        let c = *ℤ_comm d w in
        by_lt_z (pos 0) d (λ more. absurd (let t = times_positive d w more hw in omega (arith, ordered, e, zero, none, t)))
        (λ not. by_lt_z d (pos 0) (λ less. absurd (let t = times_below w d hw less in omega (arith, ordered, e, zero, none, t, c))) (λ nor. omega (arith, ordered, not, nor)))

at_point_before : (b r z t : Point) → pos 0 <ℤ dot r r b → orient2d_of b r z ≡ pos 0 → pos 0 <ℤ orient2d_of r b t → orient2d_of r z t ≡ pos 0 → (z.x ≡ r.x) × (z.y ≡ r.y)
at_point_before b r z t far_b on seen none =
    let g = ((r.x -ℤ b.x) *ℤ (t.x -ℤ r.x)) +ℤ ((r.y -ℤ b.y) *ℤ (t.y -ℤ r.y)) in
    let e = slope b r z t on in
    let n = none_first (orient2d_of b r z) g on in
    let o = none_second (dot r r b) (orient2d_of r z t) none in
    let w = orient2d-first_swapped r b t in
    let zero_beyond = nothing (dot_of_steps b r z) (orient2d_of b r t) (dot r r b *ℤ orient2d_of r z t) (orient2d_of b r z *ℤ g) e n o (omega (arith, ordered, w, seen)) in
    let f = after.past_end b r z in
    one_place b r z r far_b on (on_start b r) (omega (arith, ordered, zero_beyond, f))
  where
    nothing : (d w k m : ℤ) → k ≡ (d *ℤ w) -ℤ m → m ≡ pos 0 → k ≡ pos 0 → w <ℤ pos 0 → d ≡ pos 0
    nothing d w k m e zero none hw =
        by_lt_z (pos 0) d (λ more. absurd (let t = times_below d w more hw in omega (arith, ordered, e, zero, none, t)))
        (λ not. by_lt_z d (pos 0) (λ less. absurd (let t = both_below d w less hw in omega (arith, ordered, e, zero, none, t))) (λ nor. omega (arith, ordered, not, nor)))

module _ {V DE UE F : Type 0} (m : Mesh V DE UE F) (mesh : IsMesh m) (triangles : AllTriangles m.shape) (at : ℕ → Point) (plane : TrianglesTurnLeft at m.shape) (t : ℕ)
    (closing : IsClosing at m.shape t) (thin : IsThin at m.shape t) (closed : IsClosedBeside at m.shape t)
    (h0 : ℕ) (live_0 : IsLive m.shape h0) (on_0 : face_of m.shape h0 ≡ 0) (starts_0 : origin_of m.shape h0 ≡ t) where
  abbrev s : Shape
  s = m.shape

  abbrev p : ℕ → Point
  p h = at (origin_of s h)

  abbrev e : ℕ → Point
  e h = at (end_of s h)

  far : (h : ℕ) → IsLive s h → pos 0 <ℤ dot (e h) (e h) (p h)
  far h live = after.far m mesh triangles at plane t closing thin h live

  abbrev Seen : ℕ → Type 0
  Seen = IsSeen at s t

  decide : (h : ℕ) → Seen h ⊎ (¬ Seen h)
  decide = seen_or_not at s t

  not_at_start : (h : ℕ) → Seen h → origin_of s h ≢ t
  not_at_start = seen_start at s t

  not_at_end : (h : ℕ) → Seen h → end_of s h ≢ t
  not_at_end = seen_end at s t

  abbrev u : ℕ
  u = end_of s h0

  live_j0 : IsLive s (next_of s h0)
  live_j0 = next-live mesh.sound h0 live_0

  joined_0 : origin_of s (next_of s h0) ≡ u
  joined_0 = mesh.sound.joined h0 live_0

  old_j0 : origin_of s (next_of s h0) ≢ t
  old_j0 is = mesh.sound.two_ends h0 live_0 (starts_0 ∙ sym is ∙ joined_0)

  -- an end of the line isn't reached by a half edge that has t on its left
  no_leaf : (i : ℕ) → Seen i → prev_of s (rev i) ≡ rev (rev i) → ⊥
  no_leaf i seen turns =
      let back_i = rev_live (map_of s) i seen.live in
      let lead : end_of s (rev i) ≡ origin_of s i = ap (origin_of s) (rev-rev i) in
      let old_i = not_at_start i seen in
      let old_y = not_at_end i seen in
      let a = p (after.side m mesh triangles at plane t closing thin closed.after h0 live_0 on_0 starts_0) in
      let far_u = after.far_side m mesh triangles at plane t closing thin closed.after h0 live_0 on_0 starts_0 in
      let seen_u = after.seen m mesh triangles at plane t closing thin closed.after h0 live_0 on_0 starts_0 in
      let on_y = after.on_side m mesh triangles at plane t closing thin closed.after h0 live_0 on_0 starts_0 (rev i) back_i old_y in
      let less_y = after.at_end m mesh triangles at plane t closing thin closed.after h0 live_0 on_0 starts_0 (rev i) back_i old_y in
      let one = after.not_further a (at u) (e i) (at t) far_u on_y seen_u less_y in
      let on_u : orient2d_of (p i) (e i) (at u) ≡ pos 0 =
      subst (λ (k : ℕ). orient2d_of (p i) (e i) (at k) ≡ pos 0) joined_0 (thin.line i (next_of s h0) seen.live old_i old_y live_j0 old_j0) in
      let less_u : dot_of_steps (p i) (e i) (at u) ≤ℤ pos 0 =
      by_lt_z (pos 0) (dot_of_steps (p i) (e i) (at u))
      (λ more. absurd
      (let found = thin.onward i (next_of s h0) seen.live old_i old_y live_j0 old_j0 (subst (λ (k : ℕ). pos 0 <ℤ dot_of_steps (p i) (e i) (at k)) (sym joined_0) more) in
      let is : found.0 ≡ rev i = after.alone_there m mesh triangles at plane t closing thin (rev i) found.0 back_i found.1 turns found.2 in
      let ahead : pos 0 <ℤ dot_of_steps (p i) (e i) (p i) = subst (λ (k : ℕ). pos 0 <ℤ dot_of_steps (p i) (e i) (at k)) (ap (end_of s) is ∙ lead) found.4 in
      let back = after.back_dot (p i) (e i) (p i) in
      let f : pos 0 <ℤ dot (p i) (p i) (e i) = subst (λ (k : ℕ). pos 0 <ℤ dot (at k) (at k) (e i)) lead (far (rev i) back_i) in
      omega (arith, ordered, ahead, back, f)))
      (λ not. not) in
      let two = after.not_further (p i) (e i) (at u) (at t) (far i seen.live) on_u seen.seen less_u in
      let o = orient2d-first_swapped (e i) (at u) (at t) in
      let same = at_point a (at u) (e i) (at t) far_u on_y seen_u (omega (arith, ordered, one, two, o)) in
      let origins : origin_of s (rev i) ≡ origin_of s (next_of s h0) =
      thin.distinct (rev i) (next_of s h0) back_i live_j0 (same.0 ∙ ap (λ (k : ℕ). (at k).x) (sym joined_0)) (same.1 ∙ ap (λ (k : ℕ). (at k).y) (sym joined_0)) in
      let last : rev h0 ≡ rev i =
      after.alone_there m mesh triangles at plane t closing thin (rev i) (rev h0) back_i (rev_live (map_of s) h0 live_0) turns (sym joined_0 ∙ sym origins) in
      let is : h0 ≡ i = sym (rev-rev h0) ∙ ap rev last ∙ rev-rev i in
      old_i (ap (origin_of s) (sym is) ∙ starts_0)

  turning : (i : ℕ) → Seen i → ¬ Seen (next_of s i) → ⊥
  turning i seen not_next =
      let sound = map-sound mesh.sound in
      let j = next_of s i in
      let live_j : IsLive s j = next-live mesh.sound i seen.live in
      let on_j : face_of s j ≡ 0 = face-next (map_of s) s.words (links_stand mesh.sound) i seen.live ∙ seen.on in
      let joined : origin_of s j ≡ end_of s i = mesh.sound.joined i seen.live in
      let back_i = rev_live (map_of s) i seen.live in
      let back_j = rev_live (map_of s) j live_j in
      let lead : end_of s (rev i) ≡ origin_of s i = ap (origin_of s) (rev-rev i) in
      let unseen : orient2d_of (e i) (e j) (at t) ≤ℤ pos 0 =
      subst (λ (v : ℕ). orient2d_of (at v) (e j) (at t) ≤ℤ pos 0) joined
      (by_lt_z (pos 0) (orient2d_of (p j) (e j) (at t)) (λ more. absurd (not_next (record { live = live_j; on = on_j; seen = more }))) (λ z. z)) in
      let old_z : end_of s j ≢ t = λ z.
      (let back : prev_of s j ≡ i = sound.prev-next i seen.live in
      let b = closed.before j live_j on_j z in
      let b' : orient2d_of (p i) (e i) (at t) ≤ℤ pos 0 =
      subst (λ (v : ℕ). orient2d_of (p i) (at v) (at t) ≤ℤ pos 0) joined (subst (λ (v : ℕ). orient2d_of (p v) (p j) (at t) ≤ℤ pos 0) back b) in
      let q = seen.seen in omega (arith, ordered, b', q)) in
      let on_z : orient2d_of (p i) (e i) (e j) ≡ pos 0 = thin.line i (rev j) seen.live (not_at_start i seen) (not_at_end i seen) back_j old_z in
      let back = after.back_dot (p i) (e i) (e j) in
      by_lt_z (pos 0) (dot (p i) (e j) (e i))
      (λ same_side.
      let is : rev i ≡ j = thin.once (rev i) j back_i live_j (not_at_end i seen) (λ z. not_at_start i seen (sym lead ∙ z)) old_z (sym joined)
      (subst (λ (k : ℕ). pos 0 <ℤ dot (at k) (e j) (e i)) (sym lead) same_side) in
      no_leaf i seen (ap (prev_of s) is ∙ sound.prev-next i seen.live ∙ sym (rev-rev i)))
      (λ not. by_lt_z (dot (p i) (e j) (e i)) (pos 0)
      (λ less. let up = after.further (p i) (e i) (e j) (at t) (far i seen.live) on_z seen.seen (omega (arith, ordered, back, less)) in omega (arith, ordered, up, unseen))
      (λ nor.
      let f = after.past_end (p i) (e i) (e j) in
      let one = one_place (p i) (e i) (e j) (e i) (far i seen.live) on_z (on_start (p i) (e i)) (omega (arith, ordered, f, back, not, nor)) in
      mesh.sound.two_ends j live_j
      (sym (thin.distinct (rev j) j back_j live_j (one.0 ∙ ap (λ (k : ℕ). (at k).x) (sym joined)) (one.1 ∙ ap (λ (k : ℕ). (at k).y) (sym joined))))))

  none_seen : (h : ℕ) → Seen h → ⊥
  none_seen h is =
      let sound = map-sound mesh.sound in
      let walk = (sound.one_face h h0 is.live live_0).0 (is.on ∙ sym on_0) in
      let found = last_with (next_of s) Seen decide h h0 walk is (λ start. not_at_start h0 start starts_0) in
      turning found.0 found.1 found.2

  unseen : (h : ℕ) → IsLive s h → face_of s h ≡ 0 → orient2d_of (p h) (e h) (at t) ≤ℤ pos 0
  unseen h live on = by_lt_z (pos 0) (orient2d_of (p h) (e h) (at t)) (λ more. absurd (none_seen h (record { live = live; on = on; seen = more }))) (λ not. not)

  pub thin_convex : IsConvex at s
  thin_convex =
      closed_by m at t closing unseen
      (λ h k live on starts live_k old_k. after.from_tip m mesh triangles at plane t closing thin closed.after h live on starts k live_k old_k)
      (λ h k live on ends live_k old_k. before.to_tip m mesh triangles at plane t closing thin closed.before h live on ends k live_k old_k) h0 live_0 on_0 starts_0

  -- none leads down where the one to t starts
  mixed : (h k : ℕ) → IsLive s h → face_of s h ≡ 0 → end_of s h ≡ t → IsLive s k → face_of s k ≡ 0 → end_of s k ≢ t → origin_of s k ≡ origin_of s h → ⊥
  mixed h k live on ends live_k on_k old_z same =
      let back_k = rev_live (map_of s) k live_k in
      let b = e (before.side m mesh triangles at plane t closing thin closed.before h live on ends) in
      let far_r = before.far_side m mesh triangles at plane t closing thin closed.before h live on ends in
      let seen_r = before.seen m mesh triangles at plane t closing thin closed.before h live on ends in
      let on_z = before.on_side m mesh triangles at plane t closing thin closed.before h live on ends (rev k) back_k old_z in
      let less = before.at_start m mesh triangles at plane t closing thin closed.before h live on ends (rev k) back_k old_z in
      let up = before.not_further_before b (p h) (e k) (at t) far_r on_z seen_r less in
      let down : orient2d_of (p h) (e k) (at t) ≤ℤ pos 0 = subst (λ (i : ℕ). orient2d_of (at i) (e k) (at t) ≤ℤ pos 0) same (unseen k live_k on_k) in
      let one = at_point_before b (p h) (e k) (at t) far_r on_z seen_r (omega (arith, ordered, up, down)) in
      mesh.sound.two_ends k live_k
      (sym (thin.distinct (rev k) k back_k live_k (one.0 ∙ ap (λ (i : ℕ). (at i).x) (sym same)) (one.1 ∙ ap (λ (i : ℕ). (at i).y) (sym same))))

  -- two that lead down from one vertex
  both_down : (h k : ℕ) → IsLive s h → face_of s h ≡ 0 → origin_of s h ≢ t → end_of s h ≢ t → IsLive s k → face_of s k ≡ 0 → end_of s k ≢ t → origin_of s h ≡ origin_of s k → h ≡ k
  both_down h k live_h on_h old_y old_h live_k on_k old_k same =
      let back_h = rev_live (map_of s) h live_h in
      let back_k = rev_live (map_of s) k live_k in
      let a = after.side m mesh triangles at plane t closing thin closed.after h0 live_0 on_0 starts_0 in
      let live_a = after.live_side m mesh triangles at plane t closing thin closed.after h0 live_0 on_0 starts_0 in
      let old_a = after.old_a m mesh triangles at plane t closing thin closed.after h0 live_0 on_0 starts_0 in
      let seen_u = after.seen m mesh triangles at plane t closing thin closed.after h0 live_0 on_0 starts_0 in
      let lead : end_of s (rev h) ≡ origin_of s h = ap (origin_of s) (rev-rev h) in
      let far_y : pos 0 <ℤ dot (p h) (p h) (e h) = subst (λ (i : ℕ). pos 0 <ℤ dot (at i) (at i) (e h)) lead (far (rev h) back_h) in
      let down : orient2d_of (p h) (e h) (at t) ≤ℤ pos 0 = unseen h live_h on_h in
      let down_k : orient2d_of (p h) (e k) (at t) ≤ℤ pos 0 = subst (λ (i : ℕ). orient2d_of (at i) (e k) (at t) ≤ℤ pos 0) (sym same) (unseen k live_k on_k) in
      let on_k' : orient2d_of (p h) (e h) (e k) ≡ pos 0 = thin.line h (rev k) live_h old_y old_h back_k old_k in
      let on_back : orient2d_of (e h) (p h) (e k) ≡ pos 0 = (let o = orient2d-first_swapped (p h) (e h) (e k) in omega (arith, ordered, o, on_k')) in
      let o = orient2d-first_swapped (p h) (e h) (at t) in
      let strict : pos 0 <ℤ orient2d_of (e h) (p h) (at t) =
      by_lt_z (pos 0) (orient2d_of (e h) (p h) (at t)) (λ more. more)
      (λ not. absurd
      (let on_t : orient2d_of (p h) (e h) (at t) ≡ pos 0 = omega (arith, ordered, o, not, down) in
      let on_u : orient2d_of (p h) (e h) (at u) ≡ pos 0 =
      subst (λ (i : ℕ). orient2d_of (p h) (e h) (at i) ≡ pos 0) joined_0 (thin.line h (next_of s h0) live_h old_y old_h live_j0 old_j0) in
      let one = one_point (p a) (at u) (at t) (p h) (e h) seen_u (thin.line h a live_h old_y old_h live_a old_a) on_u on_t in
      mesh.sound.two_ends h live_h (thin.distinct h (rev h) live_h back_h one.0 one.1))) in
      let back = after.back_dot (e h) (p h) (e k) in
      by_lt_z (pos 0) (dot (e h) (e k) (p h))
      (λ same_side. thin.once h k live_h live_k old_y old_h old_k same same_side)
      (λ not. by_lt_z (dot (e h) (e k) (p h)) (pos 0)
      (λ less. absurd (let up = after.further (e h) (p h) (e k) (at t) far_y on_back strict (omega (arith, ordered, back, less)) in omega (arith, ordered, up, down_k)))
      (λ nor. absurd
      (let f = after.past_end (e h) (p h) (e k) in
      let one = one_place (e h) (p h) (e k) (p h) far_y on_back (on_start (e h) (p h)) (omega (arith, ordered, f, back, not, nor)) in
      mesh.sound.two_ends k live_k
      (sym (thin.distinct (rev k) k back_k live_k (one.0 ∙ ap (λ (i : ℕ). (at i).x) same) (one.1 ∙ ap (λ (i : ℕ). (at i).y) same))))))

  both_to_t : (h k : ℕ) → IsLive s h → IsLive s k → face_of s h ≡ 0 → face_of s k ≡ 0 → end_of s h ≡ t → end_of s k ≡ t → h ≡ k
  both_to_t h k live_h live_k on_h on_k ends_h ends_k =
      let sound = map-sound mesh.sound in
      let nexts = thin.once_t (next_of s h) (next_of s k) (next-live mesh.sound h live_h) (next-live mesh.sound k live_k)
      (face-next (map_of s) s.words (links_stand mesh.sound) h live_h ∙ on_h) (face-next (map_of s) s.words (links_stand mesh.sound) k live_k ∙ on_k)
      (mesh.sound.joined h live_h ∙ ends_h) (mesh.sound.joined k live_k ∙ ends_k) in
      sym (sound.prev-next h live_h) ∙ ap (prev_of s) nexts ∙ sound.prev-next k live_k

  pub thin_hull : IsHull at s
  thin_hull = record {
    distinct = thin.distinct;
    once = λ h k live_h live_k on_h on_k same. elim (cases_eq (origin_of s h) t) [
      | inl starts ↦ thin.once_t h k live_h live_k on_h on_k starts (sym same ∙ starts)
      | inr old_y ↦ elim (cases_eq (end_of s h) t) [
        | inl ends_h ↦ elim (cases_eq (end_of s k) t) [
          | inl ends_k ↦ both_to_t h k live_h live_k on_h on_k ends_h ends_k
          | inr old_k ↦ absurd (mixed h k live_h on_h ends_h live_k on_k old_k (sym same))
        ]
        | inr old_h ↦ elim (cases_eq (end_of s k) t) [
          | inl ends_k ↦ absurd (mixed k h live_k on_k ends_k live_h on_h old_h same)
          | inr old_k ↦ both_down h k live_h on_h old_y old_h live_k on_k old_k same
        ]
      ]
    ];
  }
