-- The first half edge that a segment between two vertices crosses, or an edge between them; and the whole list.
use Rattle.std.proofs.Common.{◌≡◌, ◌≢◌, ◌⊎◌, inl, inr, ℕ, ◌*◌, ◌<◌, List, ◌∷◌, refl, sym, ap, ◌∙◌, subst, ℤ, pos, ◌<ℤ◌, ◌≤ℤ◌, eq-zero-or-pos, arith}
use Rattle.std.proofs.lemmas.Bool.{cases_eq}
use Rattle.std.proofs.lemmas.Int.{by_lt_z}
use Rattle.dcel_fixed.specs.HalfEdges.{rev}
use Rattle.dcel_fixed.proofs.Halves.{rev-rev}
use Rattle.dcel_predicates.specs.declared.point.Point.{Point}
use Rattle.dcel_predicates.specs.Determinants.{orient2d_of}
use Rattle.dcel_predicates.proofs.Points.{orient2d-last_swapped, orient2d-turned}
use Rattle.dcel_predicates.proofs.Signs.{ordered}
use Rattle.dcel_maps.specs.Shapes.{IsLive, IsMesh, Mesh, Shape, end_of, face_of, map_of, next_of, origin_of, prev_of}
use Rattle.dcel_maps.specs.Triangulations.{AllTriangles}
use Rattle.dcel_maps.specs.Walking.{ccw_of, cw_of}
use Rattle.dcel_maps.specs.Words.{count_of}
use Rattle.dcel_maps.proofs.maps.Soundness.{rev_live}
use Rattle.dcel_maps.proofs.maps.Triangles.{IsTriangleOf}
use Rattle.dcel_maps.proofs.walks.Links.{half-below}
use Rattle.dcel_maps.proofs.words.Counts.{count-equal, count-other}
use Rattle.dcel_plane.specs.Plane.{TrianglesTurnLeft, TurnsLeft}
use Rattle.dcel_plane.proofs.edits.Corners.{corners_are}
use Rattle.dcel_plane.specs.covering.Covering.{Covers, IsConvex, IsHull, dot}
use Rattle.dcel_plane.specs.segments.Segments.{AreEnds, BeginsAt, Crosses, IsChannel, IsClear, LeadsAlong, OpensAt, orient2d_by}
use Rattle.dcel_plane.proofs.covering.Along.{long}
use Rattle.dcel_plane.proofs.covering.Apart.{apart_at}
use Rattle.dcel_plane.proofs.covering.Faces.{corner_of}
use Rattle.dcel_plane.proofs.covering.Triangles.{left_at, of_face}
use Rattle.dcel_plane.proofs.segments.Gates.{inner_near}
use Rattle.dcel_plane.proofs.covering.Inside.{on_end, on_start}
use Rattle.dcel_plane.proofs.segments.Levers.{all_on_line, holds_left, holds_right, on_left_of, on_right_of}
use Rattle.dcel_plane.proofs.segments.Onward.{IsFurther, Tail, tail, further_itself}
use Rattle.dcel_plane.proofs.segments.Peaks.{Joins}
use Rattle.dcel_plane.proofs.covering.Climbing.{strive}
use Rattle.dcel_plane.proofs.covering.Triangles.{round}

module _ {V DE UE F : Type 0} (m : Mesh V DE UE F) (mesh : IsMesh m) (triangles : AllTriangles m.shape) (at : ℕ → Point) (plane : TrianglesTurnLeft at m.shape)
    (convex : IsConvex at m.shape) (hull : IsHull at m.shape) (v w : ℕ) (differ : v ≢ w) (ends : AreEnds m.shape v w) where
  abbrev s : Shape
  s = m.shape

  abbrev off : ℕ → ℤ
  off k = orient2d_by at v w k

  at_v : off v ≡ pos 0
  at_v = on_end (at v) (at w)

  at_w : off w ≡ pos 0
  at_w = on_start (at v) (at w)

  far_ends : pos 0 <ℤ dot (at v) (at v) (at w)
  far_ends =
      subst (λ (i : ℕ). pos 0 <ℤ dot (at i) (at i) (at w)) ends.from_i
      (subst (λ (i : ℕ). pos 0 <ℤ dot (at (origin_of s ends.i)) (at (origin_of s ends.i)) (at i)) ends.from_j
      (long (at (origin_of s ends.i)) (at (origin_of s ends.j))
      (λ ex ey. differ (sym ends.from_i ∙ hull.distinct ends.i ends.j ends.live_i ends.live_j ex ey ∙ ends.from_j))))

  abbrev Found : Type 0
  Found = ((h : ℕ) × LeadsAlong at s v w h) ⊎ ((h : ℕ) × BeginsAt at s v w h)

  -- a half edge from v, on its own face's triangle
  record Out (k : ℕ) : Type 0 where
    live : IsLive s k
    from : origin_of s k ≡ v

  -- one that ends at z on the segment's line leads along the segment, where z isn't w only if it lies between v and w
  along : (k z : ℕ) → Out k → end_of s k ≡ z → off z ≡ pos 0 → (pos 0 ≤ℤ dot (at v) (at w) (at z) → w ≡ z) → LeadsAlong at s v w k
  along k z out to zero last = record {
    live = out.live;
    from = out.from;
    on = subst (λ (i : ℕ). off i ≡ pos 0) (sym to) zero;
    ahead =
        by_lt_z (dot (at v) (at w) (at z)) (pos 0) (λ less. inr (subst (λ (i : ℕ). dot (at v) (at w) (at i) <ℤ pos 0) (sym to) less))
        (λ not. inl (to ∙ sym (last not)));
  }

  -- the triangle of an inner half edge from a to b, with the corner c
  module _ (k a b : ℕ) (live : IsLive m.shape k) (inner : 0 < face_of m.shape k) (from : origin_of m.shape k ≡ a) (to : end_of m.shape k ≡ b) where
    abbrev c : ℕ
    c = origin_of m.shape (prev_of m.shape k)

    tri : IsTriangleOf (map_of s) (face_of s k) k (next_of s k) (prev_of s k)
    tri = round m mesh triangles k live inner

    next_from : origin_of s (next_of s k) ≡ b
    next_from = mesh.sound.joined k live ∙ to

    next_to : end_of s (next_of s k) ≡ c
    next_to = sym (mesh.sound.joined (next_of s k) tri.live_y) ∙ ap (origin_of s) tri.next_y

    prev_to : end_of s (prev_of s k) ≡ a
    prev_to = sym (mesh.sound.joined (prev_of s k) tri.live_z) ∙ ap (origin_of s) tri.next_z ∙ from

    left : TurnsLeft (at a) (at b) (at c)
    left = corners_are at from next_from refl (left_at m mesh triangles at plane k live inner)

    -- w is no other vertex in it
    not_covered : w ≢ a → w ≢ b → w ≢ c → Covers (at a) (at b) (at c) (at w) → ⊥
    not_covered not_a not_b not_c covers =
        apart_at m mesh triangles at plane convex hull k live inner ends.j ends.live_j
        (λ is. not_a (sym ends.from_j ∙ is ∙ from)) (λ is. not_b (sym ends.from_j ∙ is ∙ next_from)) (λ is. not_c (sym ends.from_j ∙ is))
        (subst (λ (i : ℕ). Covers (at i) (at (origin_of s (next_of s k))) (at c) (at (origin_of s ends.j))) (sym from)
        (subst (λ (i : ℕ). Covers (at a) (at i) (at c) (at (origin_of s ends.j))) (sym next_from)
        (subst (λ (i : ℕ). Covers (at a) (at b) (at c) (at i)) (sym ends.from_j) covers)))

  not_of : (k : ℕ) → (off k ≡ pos 0 → ⊥) → w ≢ k
  not_of k not is = not (subst (λ (i : ℕ). off i ≡ pos 0) is at_w)

  -- On the right of the segment: the next half edge from v, counterclockwise.
  module _ (k : ℕ) (out : Out k) (right : off (end_of m.shape k) <ℤ pos 0) where
    abbrev e : ℕ
    e = end_of m.shape k

    seen : pos 0 <ℤ orient2d_of (at v) (at e) (at w)
    seen = (let a = orient2d-last_swapped (at v) (at w) (at e) in omega (arith, ordered, a, right))

    inner : 0 < face_of s k
    inner = elim (eq-zero-or-pos (face_of s k)) [
      | inr is ↦ is
      | inl outer ↦ absurd
          (let r = subst (λ (i : ℕ). orient2d_of (at v) (at e) (at i) ≤ℤ pos 0) ends.from_j
          (subst (λ (i : ℕ). orient2d_of (at i) (at e) (at (origin_of s ends.j)) ≤ℤ pos 0) out.from (convex.supports k ends.j out.live outer ends.live_j).0) in
          let a = seen in
          omega (arith, ordered, r, a))
    ]

    abbrev z : ℕ
    z = origin_of m.shape (prev_of m.shape k)

    turn : TurnsLeft (at v) (at e) (at z)
    turn = left k v e out.live inner out.from refl

    tri_k : IsTriangleOf (map_of s) (face_of s k) k (next_of s k) (prev_of s k)
    tri_k = tri k v e out.live inner out.from refl

    begins : pos 0 <ℤ off z → BeginsAt at s v w (next_of s k)
    begins hz =
        let from = next_from k v e out.live inner out.from refl in
        let to = next_to k v e out.live inner out.from refl in
        let near : TurnsLeft (at e) (at z) (at v) = subst (λ i. pos 0 <ℤ i) (sym (orient2d-turned (at v) (at e) (at z))) turn in
        let far : orient2d_of (at e) (at z) (at w) <ℤ pos 0 =
        by_lt_z (orient2d_of (at e) (at z) (at w)) (pos 0) (λ less. less)
        (λ not. absurd
        (not_covered k v e out.live inner out.from refl (λ is. differ (sym is)) (not_of e (λ zero. omega (arith, ordered, zero, right))) (not_of z (λ zero. omega (arith, ordered, zero, hz)))
        (let a = seen in omega (arith, ordered, a), not, (let a = orient2d-turned (at z) (at v) (at w) in let b = hz in omega (arith, ordered, a, b))))) in
        record {
          crosses = record {
            live = tri_k.live_y;
            right = subst (λ (i : ℕ). off i <ℤ pos 0) (sym from) right;
            left = subst (λ (i : ℕ). pos 0 <ℤ off i) (sym to) hz;
            near = subst (λ (i : ℕ). TurnsLeft (at i) (at (end_of s (next_of s k))) (at v)) (sym from) (subst (λ (i : ℕ). TurnsLeft (at e) (at i) (at v)) (sym to) near);
            far =
                subst (λ (i : ℕ). orient2d_of (at i) (at (end_of s (next_of s k))) (at w) <ℤ pos 0) (sym from)
                (subst (λ (i : ℕ). orient2d_of (at e) (at i) (at w) <ℤ pos 0) (sym to) far);
          };
          start = record { side = k; live = out.live; on = sym tri_k.face_y; from = out.from };
        }

    out_next : Out (ccw_of s k)
    out_next = record { live = rev_live (map_of s) (prev_of s k) tri_k.live_z; from = prev_to k v e out.live inner out.from refl }

    end_next : end_of s (ccw_of s k) ≡ z
    end_next = ap (origin_of s) (rev-rev (prev_of s k))

    -- z lies between v and w, or it is w
    joins : off z ≡ pos 0 → pos 0 ≤ℤ dot (at v) (at w) (at z) → w ≡ z
    joins zero apart = elim (cases_eq w z) [
      | inl is ↦ is
      | inr not ↦
          let on_v : orient2d_of (at v) (at e) (at v) ≤ℤ pos 0 = (let a = on_end (at v) (at e) in omega (arith, ordered, a)) in
          absurd
          (not_covered k v e out.live inner out.from refl (λ is. differ (sym is)) (not_of e (λ zero_e. omega (arith, ordered, zero_e, right))) not (
            (let a = seen in omega (arith, ordered, a)),
            holds_right (at v) (at w) (at e) (at v) (at z) zero on_v seen turn apart right,
            (let a = orient2d-turned (at z) (at v) (at w) in omega (arith, ordered, a, zero)),
          ))
    ]

    -- there the segment begins, or the edge is found, or it goes on
    go_right : Found ⊎ ((off (end_of s (ccw_of s k)) <ℤ pos 0) × TurnsLeft (at v) (at e) (at (end_of s (ccw_of s k))))
    go_right =
        by_lt_z (off z) (pos 0)
        (λ less. inr (
          subst (λ (i : ℕ). off i <ℤ pos 0) (sym end_next) less,
          subst (λ (i : ℕ). TurnsLeft (at v) (at e) (at i)) (sym end_next) turn,
        ))
        (λ not. by_lt_z (pos 0) (off z) (λ more. inl (inr (next_of s k, begins more)))
        (λ nor.
        let zero : off z ≡ pos 0 = omega (arith, ordered, not, nor) in
        inl (inl (ccw_of s k, along (ccw_of s k) z out_next end_next zero (joins zero)))))

  -- On the left of it: the next half edge from v, clockwise.
  module _ (k : ℕ) (out : Out k) (left_of : pos 0 <ℤ off (end_of m.shape k)) where
    abbrev e_left : ℕ
    e_left = end_of m.shape k

    abbrev t : ℕ
    t = rev k

    live_t : IsLive s t
    live_t = rev_live (map_of s) k out.live

    to_v : end_of s t ≡ v
    to_v = ap (origin_of s) (rev-rev k) ∙ out.from

    seen_left : pos 0 <ℤ orient2d_of (at e_left) (at v) (at w)
    seen_left = (let a = orient2d-turned (at e_left) (at v) (at w) in omega (arith, ordered, a, left_of))

    inner_left : 0 < face_of s t
    inner_left = elim (eq-zero-or-pos (face_of s t)) [
      | inr is ↦ is
      | inl outer ↦ absurd
          (let r = subst (λ (i : ℕ). orient2d_of (at e_left) (at v) (at i) ≤ℤ pos 0) ends.from_j
          (subst (λ (i : ℕ). orient2d_of (at e_left) (at i) (at (origin_of s ends.j)) ≤ℤ pos 0) to_v (convex.supports t ends.j live_t outer ends.live_j).0) in
          let a = seen_left in
          omega (arith, ordered, r, a))
    ]

    abbrev z_left : ℕ
    z_left = origin_of m.shape (prev_of m.shape (rev k))

    turn_left : TurnsLeft (at e_left) (at v) (at z_left)
    turn_left = left t e_left v live_t inner_left refl to_v

    tri_t : IsTriangleOf (map_of s) (face_of s t) t (next_of s t) (prev_of s t)
    tri_t = tri t e_left v live_t inner_left refl to_v

    begins_left : off z_left <ℤ pos 0 → (h : ℕ) × BeginsAt at s v w h
    begins_left hz =
        let to = prev_to t e_left v live_t inner_left refl to_v in
        let near : TurnsLeft (at z_left) (at e_left) (at v) =
        subst (λ i. pos 0 <ℤ i) (orient2d-turned (at z_left) (at e_left) (at v)) turn_left in
        let far : orient2d_of (at z_left) (at e_left) (at w) <ℤ pos 0 =
        by_lt_z (orient2d_of (at z_left) (at e_left) (at w)) (pos 0) (λ less. less)
        (λ not. absurd
        (not_covered t e_left v live_t inner_left refl to_v (not_of e_left (λ zero. omega (arith, ordered, zero, left_of))) (λ is. differ (sym is)) (not_of z_left (λ zero. omega (arith, ordered, zero, hz)))
        ((let a = seen_left in omega (arith, ordered, a)), (let a = orient2d-last_swapped (at v) (at w) (at z_left) in omega (arith, ordered, a, hz)), not))) in (
          prev_of s t,
          record {
            crosses = record {
              live = tri_t.live_z;
              right = hz;
              left = subst (λ (i : ℕ). pos 0 <ℤ off i) (sym to) left_of;
              near = subst (λ (i : ℕ). TurnsLeft (at z_left) (at i) (at v)) (sym to) near;
              far = subst (λ (i : ℕ). orient2d_of (at z_left) (at i) (at w) <ℤ pos 0) (sym to) far;
            };
            start = record { side = next_of s t; live = tri_t.live_y; on = tri_t.face_y ∙ sym tri_t.face_z; from = next_from t e_left v live_t inner_left refl to_v };
          },
        )

    out_before : Out (cw_of s k)
    out_before = record { live = tri_t.live_y; from = next_from t e_left v live_t inner_left refl to_v }

    end_before : end_of s (cw_of s k) ≡ z_left
    end_before = next_to t e_left v live_t inner_left refl to_v

    joins_left : off z_left ≡ pos 0 → pos 0 ≤ℤ dot (at v) (at w) (at z_left) → w ≡ z_left
    joins_left zero apart = elim (cases_eq w z_left) [
      | inl is ↦ is
      | inr not ↦
          let on_v : orient2d_of (at e_left) (at v) (at v) ≤ℤ pos 0 = (let a = on_start (at e_left) (at v) in omega (arith, ordered, a)) in
          absurd
          (not_covered t e_left v live_t inner_left refl to_v (not_of e_left (λ zero_e. omega (arith, ordered, zero_e, left_of))) (λ is. differ (sym is)) not (
            (let a = seen_left in omega (arith, ordered, a)),
            (let a = orient2d-last_swapped (at v) (at w) (at z_left) in omega (arith, ordered, a, zero)),
            holds_left (at v) (at w) (at v) (at e_left) (at z_left) zero on_v seen_left turn_left apart left_of,
          ))
    ]

    go_left : Found ⊎ ((pos 0 <ℤ off (end_of s (cw_of s k))) × TurnsLeft (at v) (at (end_of s (cw_of s k))) (at e_left))
    go_left =
        by_lt_z (pos 0) (off z_left)
        (λ more. inr (
          subst (λ (i : ℕ). pos 0 <ℤ off i) (sym end_before) more,
          subst (λ (i : ℕ). TurnsLeft (at v) (at i) (at e_left)) (sym end_before) (subst (λ i. pos 0 <ℤ i) (sym (orient2d-turned (at e_left) (at v) (at z_left))) turn_left),
        ))
        (λ not. by_lt_z (off z_left) (pos 0) (λ less. inl (inr (begins_left less)))
        (λ nor.
        let zero : off z_left ≡ pos 0 = omega (arith, ordered, not, nor) in
        inl (inl (cw_of s k, along (cw_of s k) z_left out_before end_before zero (joins_left zero)))))

  -- around v, to one side or the other
  record IsAfter (h k : ℕ) : Type 0 where
    is : TurnsLeft (at v) (at (end_of s h)) (at (end_of s k))

  record IsBefore (h k : ℕ) : Type 0 where
    is : TurnsLeft (at v) (at (end_of s k)) (at (end_of s h))

  from_right : (k : ℕ) → Out k → off (end_of s k) <ℤ pos 0 → Found
  from_right k out right =
      strive Found (2 * s.edges) IsAfter (λ i. Out i × (off (end_of s i) <ℤ pos 0)) (λ i q. half-below s i q.0.live)
      (record {
        itself = λ i q r. (let a = r.is in let z = on_start (at v) (at (end_of s i)) in omega (arith, ordered, a, z));
        along = λ h i j qh qi qj r t. record { is = on_right_of (at v) (at w) (at (end_of s h)) (at (end_of s i)) (at (end_of s j)) qh.1 qi.1 qj.1 r.is t.is };
        better = λ i q. elim (go_right i q.0 q.1) [
          | inl found ↦ inl found
          | inr on ↦ inr (ccw_of s i, (out_next i q.0 q.1, on.0), record { is = on.1 })
        ];
      })
      k (out, right)

  from_left : (k : ℕ) → Out k → pos 0 <ℤ off (end_of s k) → Found
  from_left k out is_left =
      strive Found (2 * s.edges) IsBefore (λ i. Out i × (pos 0 <ℤ off (end_of s i))) (λ i q. half-below s i q.0.live)
      (record {
        itself = λ i q r. (let a = r.is in let z = on_start (at v) (at (end_of s i)) in omega (arith, ordered, a, z));
        along = λ h i j qh qi qj r t. record { is = on_left_of (at v) (at w) (at (end_of s h)) (at (end_of s i)) (at (end_of s j)) qh.1 qi.1 qj.1 r.is t.is };
        better = λ i q. elim (go_left i q.0 q.1) [
          | inl found ↦ inl found
          | inr on ↦ inr (cw_of s i, (out_before i q.0 q.1, on.0), record { is = on.1 })
        ];
      })
      k (out, is_left)

  -- from a half edge on the segment's line
  module _ (k : ℕ) (out : Out k) (inner_k : 0 < face_of m.shape k) (zero : off (end_of m.shape k) ≡ pos 0) where
    abbrev e_on : ℕ
    e_on = end_of m.shape k

    abbrev z_on : ℕ
    z_on = origin_of m.shape (prev_of m.shape k)

    turn_on : TurnsLeft (at v) (at e_on) (at z_on)
    turn_on = left k v e_on out.live inner_k out.from refl

    tri_on : IsTriangleOf (map_of s) (face_of s k) k (next_of s k) (prev_of s k)
    tri_on = tri k v e_on out.live inner_k out.from refl

    out_after : Out (ccw_of s k)
    out_after = record { live = rev_live (map_of s) (prev_of s k) tri_on.live_z; from = prev_to k v e_on out.live inner_k out.from refl }

    ends_there : pos 0 <ℤ off z_on → pos 0 ≤ℤ dot (at v) (at w) (at e_on) → w ≡ e_on
    ends_there hz apart = elim (cases_eq w e_on) [
      | inl is ↦ is
      | inr not ↦
          let on_v : orient2d_of (at z_on) (at v) (at v) ≤ℤ pos 0 = (let a = on_start (at z_on) (at v) in omega (arith, ordered, a)) in
          let seen_w : pos 0 <ℤ orient2d_of (at z_on) (at v) (at w) = (let a = orient2d-turned (at z_on) (at v) (at w) in omega (arith, ordered, a, hz)) in
          let seen_e : pos 0 <ℤ orient2d_of (at z_on) (at v) (at e_on) = subst (λ i. pos 0 <ℤ i) (orient2d-turned (at z_on) (at v) (at e_on)) turn_on in
          absurd
          (not_covered k v e_on out.live inner_k out.from refl (λ is. differ (sym is)) not (not_of z_on (λ zero_z. omega (arith, ordered, zero_z, hz))) (
            (let a = orient2d-last_swapped (at v) (at w) (at e_on) in omega (arith, ordered, a, zero)),
            holds_left (at v) (at w) (at v) (at z_on) (at e_on) zero on_v seen_w seen_e apart hz,
            omega (arith, ordered, seen_w),
          ))
    ]

    from_line : Found
    from_line =
        by_lt_z (off z_on) (pos 0)
        (λ less. from_right (ccw_of s k) out_after (subst (λ (i : ℕ). off i <ℤ pos 0) (sym (ap (origin_of s) (rev-rev (prev_of s k)))) less))
        (λ not. by_lt_z (pos 0) (off z_on) (λ more. inl (k, along k e_on out refl zero (ends_there more)))
        (λ nor. absurd (all_on_line (at v) (at w) (at e_on) (at z_on) far_ends zero (omega (arith, ordered, not, nor)) turn_on)))

  -- from any triangle
  pub found : (h : ℕ) → IsLive s h → 0 < face_of s h → Found
  found h live inner_h =
      let corner = corner_of m mesh triangles at plane convex hull ends.i h ends.live_i live inner_h in
      let k = corner.0 in
      let out : Out corner.0 = record { live = corner.1; from = corner.3 ∙ ends.from_i } in
      by_lt_z (off (end_of s corner.0)) (pos 0) (λ less. from_right corner.0 out less)
      (λ not. by_lt_z (pos 0) (off (end_of s corner.0)) (λ more. from_left corner.0 out more)
      (λ nor. from_line corner.0 out corner.2 (omega (arith, ordered, not, nor))))

  -- a half edge of v in whose triangle the segment begins
  pub opens_begins : (k : ℕ) → IsLive s k → origin_of s k ≡ v → OpensAt at s v w k → BeginsAt at s v w (next_of s k)
  opens_begins k live from opens = begins k (record { live = live; from = from }) opens.right opens.left

  pub begins_opens : (h : ℕ) → BeginsAt at s v w h → (k : ℕ) × IsLive s k × (origin_of s k ≡ v) × OpensAt at s v w k
  begins_opens h b =
      let k = b.start.side in
      let inner = subst (λ (i : ℕ). 0 < i) (sym b.start.on) (inner_near m mesh triangles at plane convex v w ends h b.crosses) in
      let tri_k = round m mesh triangles b.start.side b.start.live inner in
      let at_start = subst (λ (i : ℕ). off i ≡ pos 0) (sym b.start.from) at_v in (
        b.start.side,
        b.start.live,
        b.start.from,
        of_face m mesh (face_of s b.start.side) b.start.side (next_of s b.start.side) (prev_of s b.start.side) tri_k (λ j. Crosses at s v w j → OpensAt at s v w b.start.side)
            (λ c. absurd (let r = c.right in omega (arith, ordered, r, at_start)))
            (λ c. record {
              inner = inner;
              right = subst (λ (i : ℕ). off i <ℤ pos 0) (mesh.sound.joined b.start.side b.start.live) c.right;
              left = subst (λ (i : ℕ). pos 0 <ℤ off i) (sym (mesh.sound.joined (next_of s b.start.side) tri_k.live_y) ∙ ap (origin_of s) tri_k.next_y) c.left;
            })
            (λ c. absurd (let l = subst (λ (i : ℕ). pos 0 <ℤ off i) (sym (mesh.sound.joined (prev_of s b.start.side) tri_k.live_z) ∙ ap (origin_of s) tri_k.next_z) c.left in omega (arith, ordered, l, at_start)))
            h b.crosses.live (sym b.start.on) b.crosses,
      )

  channel_of : (h : ℕ) → BeginsAt at s v w h → Tail m mesh triangles at plane convex hull v w ends h → (list : List ℕ) × IsChannel at s v w list
  channel_of h begins rest = (
    h ∷ rest.rest,
    record {
      first = face_of s h;
      last = rest.last;
      inner = inner_near m mesh triangles at plane convex v w ends h begins.crosses;
      start = begins.start;
      end = rest.end;
      leads = (begins.crosses, refl, rest.leads);
      once = λ j. elim (cases_eq j h) [
        | inr not ↦ (let d = count-other j h rest.rest not in let o = rest.once j in omega (arith, d, o))
        | inl is ↦ elim (eq-zero-or-pos (count_of j rest.rest)) [
          | inl none ↦ (let d = count-equal j h rest.rest is in omega (arith, d, none))
          | inr some ↦ absurd
              (further_itself m mesh triangles at plane convex hull v w ends h
              (subst (λ (i : ℕ). IsFurther m mesh triangles at plane convex hull v w ends h i) is (rest.higher j some)))
        ]
      ];
    },
  )

  -- with no vertex between its ends
  module _ (clear : IsClear at m.shape v w) where
    along_joins : (h : ℕ) → LeadsAlong at s v w h → Joins m mesh triangles v w
    along_joins h leads = elim leads.ahead [
      | inl is ↦ record { edge = h; live = leads.live; from = leads.from; to = is }
      | inr between ↦ absurd (let c = clear.clear (rev h) (rev_live (map_of s) h leads.live) leads.on in omega (arith, ordered, between, c))
    ]

    pub joins_or_crosses : (h : ℕ) → IsLive s h → 0 < face_of s h → Joins m mesh triangles v w ⊎ ((list : List ℕ) × IsChannel at s v w list)
    joins_or_crosses h live inner_h = elim (found h live inner_h) [
      | inl edge ↦ inl (along_joins edge.0 edge.1)
      | inr b ↦ inr (channel_of b.0 b.1 (tail m mesh triangles at plane convex hull v w ends clear b.0 b.1.crosses))
    ]
