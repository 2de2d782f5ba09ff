-- A corner of the hull cut off with its triangles, where no neighbor turns left: the hull is convex.
use Rattle.std.proofs.Common.{◌≡◌, ◌≢◌, ◌⊎◌, inl, inr, ℕ, zero, suc, ◌+◌, ◌-◌, ◌<◌, ◌≤◌, List, [], ◌∷◌, length, refl, sym, ap, ◌∙◌, subst, ℤ, pos, ◌*ℤ◌, ◌<ℤ◌, ◌≤ℤ◌, arith}
use Rattle.std.proofs.lemmas.Bool.{cases_eq, cases_lt}
use Rattle.std.proofs.lemmas.Int.{by_lt_z}
use Rattle.std.proofs.Math.IntN.{*ℤ_comm}
use Rattle.dcel_fixed.specs.HalfEdges.{rev}
use Rattle.dcel_fixed.proofs.Halves.{rev-rev}
use Rattle.dcel_predicates.specs.declared.point.Point.{Point}
use Rattle.dcel_predicates.specs.Determinants.{orient2d_of}
use Rattle.dcel_predicates.proofs.Points.{orient2d-first_swapped, orient2d-last_swapped, orient2d-turned}
use Rattle.dcel_predicates.proofs.Signs.{both_negative, ordered, times_negative}
use Rattle.dcel_maps.specs.Maps.{By}
use Rattle.dcel_maps.specs.Shapes.{IsLive, IsMesh, Mesh, Shape, end_of, face_of, map_of, next_of, origin_of, prev_of}
use Rattle.dcel_maps.specs.theory.Cycles.{Path}
use Rattle.dcel_maps.specs.Triangulations.{AllTriangles}
use Rattle.dcel_maps.specs.Walking.{IsOutEdge, IsRoundTrip, ListsOnce, ccw_of}
use Rattle.dcel_maps.specs.Words.{count_of}
use Rattle.dcel_maps.proofs.maps.Soundness.{rev_live}
use Rattle.dcel_maps.proofs.walks.Links.{links_stand, prev-live}
use Rattle.dcel_maps.proofs.words.Counts.{first_or_later}
use Rattle.dcel_maps.proofs.words.Reading.{face-prev}
use Rattle.dcel_plane.specs.Plane.{TrianglesTurnLeft, TurnsLeft}
use Rattle.dcel_plane.specs.covering.Covering.{Covers, IsConvex, IsHull, Supports, dot}
use Rattle.dcel_plane.specs.removal.Wheels.{IsHollow, turns}
use Rattle.dcel_plane.proofs.covering.Along.{IsBetween, dot_swapped, long, none_first}
use Rattle.dcel_plane.proofs.hull.Beside.{end_right, start_right}
use Rattle.dcel_plane.proofs.covering.Apart.{apart_at}
use Rattle.dcel_plane.proofs.covering.Triangles.{ends_before, left_at}
use Rattle.dcel_plane.proofs.covering.Along.{one_point}
use Rattle.dcel_plane.proofs.removal.Hollows.{right_of_all}
use Rattle.dcel_plane.proofs.removal.HullCorners.{corner_fan, inner_at, spoke}
use Rattle.dcel_plane.proofs.covering.Inside.{apart_end, apart_start, on_end, on_start}
use Rattle.dcel_plane.proofs.hull.OneLine.{inside_of}
use Rattle.dcel_plane.proofs.covering.Products.{times_below}
use Rattle.dcel_plane.proofs.hull.Quads.{weighed_point}
use Rattle.dcel_plane.proofs.removal.Turning.{closes, turns_first}
use Rattle.dcel_plane.proofs.covering.Triangles.{round}
use Rattle.dcel_plane.proofs.removal.Wheels.{plucker, spans}

-- A line at u that has v, a and b on its right, where u lies in the triangle of these: a and b are on it, and v isn't; so what lies right of it,
-- and right of the side from u to b, lies on it.
all_on : (v a u b q z : Point) → TurnsLeft v a u → TurnsLeft v u b → orient2d_of a u b ≤ℤ pos 0 → orient2d_of u q a ≤ℤ pos 0 → orient2d_of u q b ≤ℤ pos 0 → orient2d_of u q v ≤ℤ pos 0
    → (u.x ≡ q.x → u.y ≡ q.y → ⊥) → orient2d_of u q z ≤ℤ pos 0 → orient2d_of u b z ≤ℤ pos 0 → orient2d_of u q z ≡ pos 0
all_on v a u b q z vau vub aub on_a on_b on_v differ right_z right_b =
    let e = weighed_point v a b u q u in
    let o = on_end u q in
    let none = none_first (orient2d_of u q u) (orient2d_of v a b) o in
    let t1 = orient2d-last_swapped a u b in
    let t2 = orient2d-turned v u b in
    let t2' = orient2d-turned u b v in
    let first = times_negative (orient2d_of a b u) (orient2d_of u q v) (omega (arith, ordered, t1, aub)) on_v in
    let second = times_negative (orient2d_of b v u) (orient2d_of u q a) (omega (arith, ordered, t2, t2', vub)) on_a in
    let third = times_negative (orient2d_of v a u) (orient2d_of u q b) (omega (arith, ordered, vau)) on_b in
    let zero_a : orient2d_of u q a ≡ pos 0 = no_factor (orient2d_of b v u) (orient2d_of u q a) (omega (arith, ordered, t2, t2', vub)) on_a (omega (arith, ordered, e, none, first, second, third)) in
    let zero_b : orient2d_of u q b ≡ pos 0 = no_factor (orient2d_of v a u) (orient2d_of u q b) vau on_b (omega (arith, ordered, e, none, first, second, third)) in
    let off : orient2d_of u q v <ℤ pos 0 =
    by_lt_z (orient2d_of u q v) (pos 0) (λ less. less)
    (λ not. absurd
    (let one = one_point v a u u q vau (omega (arith, ordered, on_v, not)) zero_a o in
    differ one.0 one.1)) in
    let pl = plucker u q b v z in
    let n = none_first (orient2d_of u q b) (orient2d_of u v z) zero_b in
    let p = both_negative (orient2d_of u q v) (orient2d_of u b z) on_v right_b in
    let t3 = orient2d-turned v u b in
    let r = times_negative (orient2d_of u b v) (orient2d_of u q z) (omega (arith, ordered, t3, vub)) right_z in
    let c = *ℤ_comm (orient2d_of u b v) (orient2d_of u q z) in
    no_factor (orient2d_of u b v) (orient2d_of u q z) (omega (arith, ordered, t3, vub)) right_z (omega (arith, ordered, pl, n, p, r, c))
  where
    no_factor : (x y : ℤ) → pos 0 <ℤ x → y ≤ℤ pos 0 → pos 0 ≤ℤ (x *ℤ y) → y ≡ pos 0
    no_factor x y more not product =
        by_lt_z y (pos 0) (λ less. absurd (let t = times_below x y more less in omega (arith, ordered, t, product))) (λ nor. omega (arith, ordered, not, nor))

-- where an item of a path stands
pub path_find : (f : ℕ → ℕ) (x : ℕ) (r : List ℕ) (e a : ℕ) → Path (By f) x r e → 0 < count_of a (x ∷ r) → (n : ℕ) × (n < suc (length r)) × (turns f n x ≡ a)
path_find f x [] e a path found = elim (first_or_later a x [] found) [
  | inl is ↦ (0, omega arith, sym is)
  | inr none ↦ absurd (omega (arith, none))
]
path_find f x (y ∷ r) e a path found = elim (first_or_later a x (y ∷ r) found) [
  | inl is ↦ (0, omega arith, sym is)
  | inr later ↦
      (let (n, below, is) = path_find f y r e a path.1 later in
      (suc n, omega (arith, below), turns_first f n x ∙ ap (turns f n) path.0 ∙ is))
]

-- The shape t is s without the vertex v, its edges and its triangles: what is outer in t was outer, or comes after a half edge from v.
pub record IsCutOff (s t : Shape) (v : ℕ) : Type 0 where
  pub old : (x : ℕ) → IsLive t x → IsLive s x
  pub same : (x : ℕ) → IsLive t x → origin_of t x ≡ origin_of s x
  pub none : (x : ℕ) → IsLive t x → origin_of t x ≢ v
  pub outer : (x : ℕ) → IsLive t x → face_of t x ≡ 0
      → (face_of s x ≡ 0) ⊎ ((a : ℕ) × IsLive s a × (origin_of s a ≡ v) × (0 < face_of s a) × (next_of s a ≡ x))

-- without the vertex: what stays of a convex hull, and the sides after half edges from v, if these are as in one
module _ (at : ℕ → Point) (s t : Shape) (v : ℕ) (cut : IsCutOff s t v) (turned : (x : ℕ) → IsLive t x → IsLive t (rev x)) where
  abbrev pub IsSide : ℕ → Type 0
  IsSide x = (a : ℕ) × IsLive s a × (origin_of s a ≡ v) × (0 < face_of s a) × (next_of s a ≡ x)

  pub cut_off_convex : IsConvex at s
      → ((x z : ℕ) → IsSide x → IsLive s z → origin_of s z ≢ v → Supports (at (origin_of s x)) (at (end_of s x)) (at (origin_of s z))) → IsConvex at t
  cut_off_convex convex sides = record {
    supports = λ x z live_x on_x live_z.
        subst (λ (j : ℕ). Supports (at (origin_of t x)) (at (end_of t x)) (at j)) (sym (cut.same z live_z))
        (subst (λ (j : ℕ). Supports (at (origin_of t x)) (at j) (at (origin_of s z))) (sym (cut.same (rev x) (turned x live_x)))
        (subst (λ (j : ℕ). Supports (at j) (at (end_of s x)) (at (origin_of s z))) (sym (cut.same x live_x))
        (elim (cut.outer x live_x on_x) [
          | inl was ↦ convex.supports x z (cut.old x live_x) was (cut.old z live_z)
          | inr side ↦ sides x z side (cut.old z live_z) (λ is. cut.none z live_z (cut.same z live_z ∙ is))
        ])));
  }

  pub cut_off_hull : IsHull at s → ((x z : ℕ) → IsLive t x → face_of s x ≡ 0 → IsSide z → origin_of s x ≡ origin_of s z → ⊥)
      → ((x z : ℕ) → IsSide x → IsSide z → origin_of s x ≡ origin_of s z → x ≡ z) → IsHull at t
  cut_off_hull hull old_side one_side = record {
    distinct = λ x z live_x live_z ex ey.
        cut.same x live_x
        ∙ hull.distinct x z (cut.old x live_x) (cut.old z live_z) (ap (λ (j : ℕ). (at j).x) (sym (cut.same x live_x)) ∙ ex ∙ ap (λ (j : ℕ). (at j).x) (cut.same z live_z))
        (ap (λ (j : ℕ). (at j).y) (sym (cut.same x live_x)) ∙ ey ∙ ap (λ (j : ℕ). (at j).y) (cut.same z live_z))
        ∙ sym (cut.same z live_z);
    once = λ x z live_x live_z on_x on_z same.
        let starts : origin_of s x ≡ origin_of s z = sym (cut.same x live_x) ∙ same ∙ cut.same z live_z in
        elim (cut.outer x live_x on_x) [
          | inl was_x ↦ elim (cut.outer z live_z on_z) [
            | inl was_z ↦ hull.once x z (cut.old x live_x) (cut.old z live_z) was_x was_z starts
            | inr side ↦ absurd (old_side x z live_x was_x side starts)
          ]
          | inr side_x ↦ elim (cut.outer z live_z on_z) [
            | inl was_z ↦ absurd (old_side z x live_z was_z side_x (sym starts))
            | inr side ↦ one_side x z side_x side starts
          ]
        ];
  }

-- the number in a round trip of one that it lists
pub number_of : {P : ℕ → Type 0} (f : ℕ → ℕ) (h : ℕ) (w : List ℕ) → IsRoundTrip f h w → ListsOnce P w → (a : ℕ) → P a → (n : ℕ) × (n < length w) × (turns f n h ≡ a)
number_of f h w trip lists a is =
    let found : 0 < count_of a w = (let c = lists.each a is in omega (arith, c)) in
    let (n, below, at_n) = path_find f h trip.rest h a trip.round (subst (λ (l : List ℕ). 0 < count_of a l) trip.from found) in
    let long : length w ≡ suc (length trip.rest) = ap length trip.from in
    (n, omega (arith, below, long), at_n)

module _ {V DE UE F : Type 0} (m : Mesh V DE UE F) (mesh : IsMesh m) (triangles : AllTriangles m.shape) (at : ℕ → Point) (plane : TrianglesTurnLeft at m.shape)
    (convex : IsConvex at m.shape) (hull : IsHull at m.shape) (h : ℕ) (live : IsLive m.shape h) (outer : face_of m.shape h ≡ 0)
    (w : List ℕ) (trip : IsRoundTrip (ccw_of m.shape) h w) (lists : ListsOnce (IsOutEdge m.shape (origin_of m.shape h)) w)
    (hollow : IsHollow (at (origin_of m.shape h)) (λ i. at (end_of m.shape (turns (ccw_of m.shape) (suc i) h))) (length w - 1)) where
  abbrev s : Shape
  s = m.shape

  abbrev o : ℕ
  o = origin_of m.shape h

  abbrev p : ℕ → Point
  p k = at (origin_of s k)

  abbrev pub spin : ℕ → ℕ
  spin i = turns (ccw_of m.shape) i h

  abbrev neighbor : ℕ → Point
  neighbor i = at (end_of m.shape (turns (ccw_of m.shape) (suc i) h))

  abbrev k : ℕ
  k = length w - 1

  end_next : (j : ℕ) → end_of s (ccw_of s j) ≡ origin_of s (prev_of s j)
  end_next j = ap (origin_of s) (rev-rev (prev_of s j))

  -- each vertex lies in the angle of the corner
  ahead : (z : ℕ) → IsLive s z → pos 0 ≤ℤ orient2d_of (at o) (neighbor 0) (p z)
  ahead z live_z =
      let on_prev : face_of s (prev_of s h) ≡ 0 = face-prev (map_of s) s.words (links_stand mesh.sound) h live ∙ outer in
      let r = (convex.supports (prev_of s h) z (prev-live mesh.sound h live) on_prev live_z).0 in
      let r' : orient2d_of (neighbor 0) (at o) (p z) ≤ℤ pos 0 =
      subst (λ (j : ℕ). orient2d_of (at j) (at o) (p z) ≤ℤ pos 0) (sym (end_next h))
      (subst (λ (j : ℕ). orient2d_of (p (prev_of s h)) (at j) (p z) ≤ℤ pos 0) (ends_before m mesh h live) r) in
      let q = orient2d-first_swapped (neighbor 0) (at o) (p z) in
      omega (arith, ordered, r', q)

  behind : 0 < k → (z : ℕ) → IsLive s z → pos 0 ≤ℤ orient2d_of (at o) (p z) (neighbor k)
  behind some z live_z =
      let r = (convex.supports h z live outer live_z).0 in
      let e : suc k ≡ length w = omega (arith, some) in
      let is : h ≡ spin (suc k) = sym (closes (ccw_of s) h w trip) ∙ ap (λ n. turns (ccw_of s) n h) (sym e) in
      let r' : orient2d_of (at o) (neighbor k) (p z) ≤ℤ pos 0 = subst (λ (j : ℕ). orient2d_of (at o) (at (end_of s j)) (p z) ≤ℤ pos 0) is r in
      let q = orient2d-last_swapped (at o) (neighbor k) (p z) in
      omega (arith, ordered, r', q)

  live_spin : (i : ℕ) → IsLive s (spin i)
  live_spin i = (spoke m mesh triangles at plane convex hull h live outer w trip i).alive

  from_spin : (i : ℕ) → origin_of s (spin i) ≡ o
  from_spin i = (spoke m mesh triangles at plane convex hull h live outer w trip i).from

  inner_spin : (i : ℕ) → i < k → 0 < face_of s (spin (suc i))
  inner_spin i below = inner_at m mesh triangles at plane convex hull h live outer w trip (suc i) (omega arith) (omega (arith, below))

  -- what lies in the angle of a triangle, but isn't a corner, lies beyond it
  beyond : (j : ℕ) → j < k → (z : ℕ) → IsLive s z → origin_of s z ≢ o → pos 0 ≤ℤ orient2d_of (at o) (neighbor j) (p z) → pos 0 ≤ℤ orient2d_of (at o) (p z) (neighbor (suc j))
      → (pos 0 ≤ℤ orient2d_of (neighbor j) (neighbor (suc j)) (p z)) → (p z ≡ neighbor j) ⊎ (p z ≡ neighbor (suc j))
  beyond j below z live_z not_o after before side =
      let a = spin (suc j) in
      let live_a = live_spin (suc j) in
      let joined : origin_of s (next_of s a) ≡ end_of s a = mesh.sound.joined a live_a in
      let third : origin_of s (prev_of s a) ≡ end_of s (spin (suc (suc j))) = sym (end_next a) in
      let t = orient2d-turned (neighbor (suc j)) (at o) (p z) in
      let covers : Covers (at o) (neighbor j) (neighbor (suc j)) (p z) = (after, side, omega (arith, ordered, t, before)) in
      let covers' : Covers (p a) (p (next_of s a)) (p (prev_of s a)) (p z) =
      subst (λ (i : ℕ). Covers (at i) (p (next_of s a)) (p (prev_of s a)) (p z)) (sym (from_spin (suc j)))
      (subst (λ (i : ℕ). Covers (at o) (at i) (p (prev_of s a)) (p z)) (sym joined) (subst (λ (i : ℕ). Covers (at o) (neighbor j) (at i) (p z)) (sym third) covers)) in
      elim (cases_eq (origin_of s z) (origin_of s (next_of s a))) [
        | inl is ↦ inl (ap at (is ∙ joined))
        | inr not_y ↦ elim (cases_eq (origin_of s z) (origin_of s (prev_of s a))) [
          | inl is ↦ inr (ap at (is ∙ third))
          | inr not_z ↦ absurd
              (apart_at m mesh triangles at plane convex hull a live_a (inner_spin j below) z live_z (λ is. not_o (is ∙ from_spin (suc j))) not_y not_z covers')
        ]
      ]

  next_is : (i : ℕ) → suc i ≡ i + 1
  next_is i = omega arith

  at_next : (P : Point → Type 0) (i : ℕ) → P (neighbor (suc i)) → P (neighbor (i + 1))
  at_next P i holds = subst (λ (n : ℕ). P (neighbor n)) (next_is i) holds

  at_suc : (P : Point → Type 0) (i : ℕ) → P (neighbor (i + 1)) → P (neighbor (suc i))
  at_suc P i holds = subst (λ (n : ℕ). P (neighbor n)) (sym (next_is i)) holds

  -- so all lie right of each side
  right : (i : ℕ) → i < k → (z : ℕ) → IsLive s z → origin_of s z ≢ o → orient2d_of (neighbor i) (neighbor (suc i)) (p z) ≤ℤ pos 0
  right i below z live_z not_o =
      at_suc (λ q. orient2d_of (neighbor i) q (p z) ≤ℤ pos 0) i
      (right_of_all (at o) neighbor k (corner_fan m mesh triangles at plane convex hull h live outer w trip).left hollow (p z) (ahead z live_z)
      (behind (omega (arith, below)) z live_z) (omega (arith, below))
      (λ j within after before.
      by_lt_z (pos 0) (orient2d_of (neighbor j) (neighbor (j + 1)) (p z))
      (λ more. absurd
      (let more' : pos 0 <ℤ orient2d_of (neighbor j) (neighbor (suc j)) (p z) = at_suc (λ q. pos 0 <ℤ orient2d_of (neighbor j) q (p z)) j more in
      elim (beyond j within z live_z not_o after (at_suc (λ q. pos 0 ≤ℤ orient2d_of (at o) (p z) q) j before) (omega (arith, ordered, more'))) [
        | inl is ↦ (let e : orient2d_of (neighbor j) (neighbor (suc j)) (p z) ≡ pos 0 = ap (λ q. orient2d_of (neighbor j) (neighbor (suc j)) q) is ∙ on_end (neighbor j) (neighbor (suc j)) in omega (arith, ordered, e, more'))
        | inr is ↦ (let e : orient2d_of (neighbor j) (neighbor (suc j)) (p z) ≡ pos 0 = ap (λ q. orient2d_of (neighbor j) (neighbor (suc j)) q) is ∙ on_start (neighbor j) (neighbor (suc j)) in omega (arith, ordered, e, more'))
      ]))
      (λ not. not)) i below)

  -- and none between its ends
  between : (i : ℕ) → i < k → (z : ℕ) → IsLive s z → origin_of s z ≢ o → orient2d_of (neighbor i) (neighbor (suc i)) (p z) ≡ pos 0 → pos 0 ≤ℤ dot (neighbor i) (neighbor (suc i)) (p z)
  between i below z live_z not_o on =
      by_lt_z (dot (neighbor i) (neighbor (suc i)) (p z)) (pos 0)
      (λ less. absurd
      (let left = (corner_fan m mesh triangles at plane convex hull h live outer w trip).left i below in
      let left' : TurnsLeft (at o) (neighbor i) (neighbor (suc i)) = at_suc (λ q. TurnsLeft (at o) (neighbor i) q) i left in
      let far : pos 0 <ℤ dot (neighbor i) (neighbor i) (neighbor (suc i)) = long (neighbor i) (neighbor (suc i)) (λ ex ey. flat_none (at o) (neighbor i) (neighbor (suc i)) ex ey left') in
      let on_back : orient2d_of (neighbor (suc i)) (neighbor i) (p z) ≡ pos 0 = (let q = orient2d-first_swapped (neighbor i) (neighbor (suc i)) (p z) in omega (arith, ordered, q, on)) in
      let swapped : dot (neighbor (suc i)) (neighbor i) (p z) <ℤ pos 0 = (let c = dot_swapped (neighbor (suc i)) (neighbor i) (p z) in omega (arith, ordered, c, less)) in
      let places = inside_of (neighbor (suc i)) (neighbor i) (p z) far on_back swapped in
      let is : IsBetween (neighbor (suc i)) (neighbor i) (p z) = record { on = on_back; above = places.0; below = places.1 } in
      let t = orient2d-turned (at o) (neighbor i) (neighbor (suc i)) in
      let f = orient2d-first_swapped (neighbor i) (neighbor (suc i)) (at o) in
      let one = start_right (neighbor (suc i)) (neighbor i) (p z) is (at o) (omega (arith, ordered, t, f, left')) in
      let two = end_right (neighbor (suc i)) (neighbor i) (p z) is (at o) (omega (arith, ordered, t, f, left')) in
      let g = orient2d-turned (at o) (neighbor (suc i)) (p z) in
      let g' = orient2d-last_swapped (at o) (neighbor (suc i)) (p z) in
      let b = orient2d-turned (at o) (p z) (neighbor i) in
      let b' = orient2d-last_swapped (at o) (p z) (neighbor i) in
      elim (beyond i below z live_z not_o (omega (arith, ordered, b, b', two)) (omega (arith, ordered, g, g', one)) (omega (arith, ordered, on))) [
        | inl at_start ↦ (let e = ap (λ q. dot (neighbor i) (neighbor (suc i)) q) at_start ∙ apart_start (neighbor i) (neighbor (suc i)) in omega (arith, ordered, e, less))
        | inr at_end ↦ (let e = ap (λ q. dot (neighbor i) (neighbor (suc i)) q) at_end ∙ apart_end (neighbor i) (neighbor (suc i)) in omega (arith, ordered, e, less))
      ]))
      (λ not. not)
    where
      flat_none : (v a b : Point) → a.x ≡ b.x → a.y ≡ b.y → TurnsLeft v a b → ⊥
      flat_none v a b ex ey turns = (let z = same_last v a b ex ey ∙ on_start v b in omega (arith, ordered, z, turns))
        where
          same_last : (v a b : Point) → a.x ≡ b.x → a.y ≡ b.y → orient2d_of v a b ≡ orient2d_of v b b
          same_last v a b ex ey = rw (ex, ey) refl

  -- the side after a half edge from the corner
  pub record SideOf (x : ℕ) : Type 0 where
    pub i : ℕ
    pub below : i < k
    pub comes : x ≡ next_of s (spin (suc i))
    pub start : origin_of s x ≡ end_of s (spin (suc i))
    pub end : end_of s x ≡ end_of s (spin (suc (suc i)))

  pub side_of : (x a : ℕ) → IsLive s a → origin_of s a ≡ o → 0 < face_of s a → next_of s a ≡ x → SideOf x
  side_of x a live_a from_a inner_a is =
      let (n, below, at_n) = number_of (ccw_of s) h w trip lists a (record { live = live_a; start = from_a }) in
      by_number x a live_a inner_a is n below at_n
    where
      by_number : (x a : ℕ) → IsLive s a → 0 < face_of s a → next_of s a ≡ x → (n : ℕ) → n < length w → spin n ≡ a → SideOf x
      by_number x a live_a inner_a is zero below at_n = absurd (let e = ap (face_of s) at_n in omega (arith, e, outer, inner_a))
      by_number x a live_a inner_a is (suc i) below at_n =
          let tri = round m mesh triangles a live_a inner_a in
          record {
            i = i;
            below = omega (arith, below);
            comes = sym is ∙ ap (next_of s) (sym at_n);
            start = ap (origin_of s) (sym is) ∙ mesh.sound.joined a live_a ∙ ap (end_of s) (sym at_n);
            end =
                ap (end_of s) (sym is) ∙ sym (mesh.sound.joined (next_of s a) tri.live_y) ∙ ap (origin_of s) tri.next_y ∙ sym (end_next a)
                ∙ ap (λ j. end_of s (ccw_of s j)) (sym at_n);
          }

  -- two neighbors that differ stand at different points
  pub neighbors_apart : (i d : ℕ) → i + suc d ≤ k → pos 0 <ℤ orient2d_of (at o) (neighbor i) (neighbor (i + suc d))
  neighbors_apart i d within =
      let left = (corner_fan m mesh triangles at plane convex hull h live outer w trip).left in
      let w' = λ (n : ℕ). neighbor (i + n) in
      let over = (spans (at o) w' (suc d)
      (λ n less. subst (λ (j : ℕ). pos 0 <ℤ orient2d_of (at o) (neighbor (i + n)) (neighbor j)) (let e : (i + n) + 1 ≡ i + (n + 1) = omega arith in e) (left (i + n) (omega (arith, less, within))))
      d (omega arith)
      (λ n less.
      subst (λ (j : ℕ). orient2d_of (neighbor (i + n)) (neighbor (i + (n + 1))) (neighbor j) ≤ℤ pos 0) (let e : (i + n) + 2 ≡ i + (n + 2) = omega arith in e)
      (subst (λ (j : ℕ). orient2d_of (neighbor (i + n)) (neighbor j) (neighbor (i + n + 2)) ≤ℤ pos 0) (let e : (i + n) + 1 ≡ i + (n + 1) = omega arith in e)
      (hollow.flat (i + n) (omega (arith, less, within)))))).less in
      subst (λ (j : ℕ). pos 0 <ℤ orient2d_of (at o) (neighbor i) (neighbor j)) (let e : i + (d + 1) ≡ i + suc d = omega arith in e)
      (subst (λ (j : ℕ). pos 0 <ℤ orient2d_of (at o) (neighbor j) (neighbor (i + (d + 1)))) (let e : i + 0 ≡ i = omega arith in e) over)

  not_later : (i j : ℕ) → i < j → j ≤ k → neighbor i ≡ neighbor j → ⊥
  not_later i j less within same =
      let e : i + suc (j - i - 1) ≡ j = omega (arith, less) in
      let a = subst (λ (n : ℕ). pos 0 <ℤ orient2d_of (at o) (neighbor i) (neighbor n)) e (neighbors_apart i (j - i - 1) (omega (arith, less, within))) in
      let z : orient2d_of (at o) (neighbor i) (neighbor j) ≡ pos 0 = ap (λ q. orient2d_of (at o) q (neighbor j)) same ∙ on_start (at o) (neighbor j) in
      omega (arith, ordered, a, z)

  one_side : (x z : ℕ) → SideOf x → SideOf z → origin_of s x ≡ origin_of s z → x ≡ z
  one_side x z f g same =
      let points : neighbor f.i ≡ neighbor g.i = ap at (sym f.start ∙ same ∙ g.start) in
      let f_below = f.below in
      let g_below = g.below in
      elim (cases_lt f.i g.i) [
        | inl less ↦ absurd (not_later f.i g.i less (omega (arith, g_below)) points)
        | inr not ↦ elim (cases_lt g.i f.i) [
          | inl more ↦ absurd (not_later g.i f.i more (omega (arith, f_below)) (sym points))
          | inr nor ↦ (let e : f.i ≡ g.i = omega (arith, not, nor) in f.comes ∙ ap (λ n. next_of s (spin (suc n))) e ∙ sym g.comes)
        ]
      ]

  module _ (t : Shape) (cut : IsCutOff m.shape t (origin_of m.shape h)) (turned : (x : ℕ) → IsLive t x → IsLive t (rev x)) where
    pub cut_convex : IsConvex at t
    cut_convex =
        cut_off_convex at s t o cut turned convex (λ x z side live_z not_o.
        let f = side_of x side.0 side.1 side.2 side.3 side.4 in
        subst (λ (j : ℕ). Supports (at j) (at (end_of s x)) (p z)) (sym f.start)
        (subst (λ (j : ℕ). Supports (neighbor f.i) (at j) (p z)) (sym f.end) (right f.i f.below z live_z not_o, between f.i f.below z live_z not_o)))

    -- an old half edge of the hull doesn't start where a side does, if a triangle is left
    module _ (g : ℕ) (live_g : IsLive s g) (inner_g : 0 < face_of s g) (one : IsLive t g) (two : IsLive t (next_of s g)) (three : IsLive t (prev_of s g)) where
      at_first : (x : ℕ) → IsLive t x → face_of s x ≡ 0 → origin_of s x ≡ end_of s (spin 1) → ⊥
      at_first x live_x on_x same =
          let live_p = prev-live mesh.sound h live in
          let on_p : face_of s (prev_of s h) ≡ 0 = face-prev (map_of s) s.words (links_stand mesh.sound) h live ∙ outer in
          let is : x ≡ prev_of s h = hull.once x (prev_of s h) (cut.old x live_x) live_p on_x on_p (same ∙ end_next h) in
          cut.none (rev x) (turned x live_x) (cut.same (rev x) (turned x live_x) ∙ ap (end_of s) is ∙ ends_before m mesh h live)

      at_later : (x i : ℕ) → IsLive t x → face_of s x ≡ 0 → suc i < k → origin_of s x ≡ end_of s (spin (suc (suc i))) → ⊥
      at_later x i live_x on_x below same =
          let was = cut.old x live_x in
          let u = neighbor (suc i) in
          let q = at (end_of s x) in
          let right_of : (z : ℕ) → IsLive s z → orient2d_of (neighbor (suc i)) (at (end_of s x)) (p z) ≤ℤ pos 0 =
          λ z live_z. subst (λ (j : ℕ). orient2d_of (at j) (at (end_of s x)) (p z) ≤ℤ pos 0) same (convex.supports x z was on_x live_z).0 in
          let a = right_of (rev (spin (suc i))) (rev_live (map_of s) (spin (suc i)) (live_spin (suc i))) in
          let b = right_of (rev (spin (suc (suc (suc i))))) (rev_live (map_of s) (spin (suc (suc (suc i)))) (live_spin (suc (suc (suc i))))) in
          let c = right_of h live in
          let left = (corner_fan m mesh triangles at plane convex hull h live outer w trip).left in
          let before : TurnsLeft (at o) (neighbor i) (neighbor (suc i)) = at_suc (λ r. TurnsLeft (at o) (neighbor i) r) i (left i (omega (arith, below))) in
          let after : TurnsLeft (at o) (neighbor (suc i)) (neighbor (suc (suc i))) = at_suc (λ r. TurnsLeft (at o) (neighbor (suc i)) r) (suc i) (left (suc i) below) in
          let flat : orient2d_of (neighbor i) (neighbor (suc i)) (neighbor (suc (suc i))) ≤ℤ pos 0 =
          subst (λ (n : ℕ). orient2d_of (neighbor i) (neighbor (suc i)) (neighbor n) ≤ℤ pos 0) (let e : i + 2 ≡ suc (suc i) = omega arith in e)
          (at_suc (λ r. orient2d_of (neighbor i) r (neighbor (i + 2)) ≤ℤ pos 0) i (hollow.flat i (omega (arith, below)))) in
          let differ : (neighbor (suc i)).x ≡ (at (end_of s x)).x → (neighbor (suc i)).y ≡ (at (end_of s x)).y → ⊥ =
          λ ex ey. mesh.sound.two_ends x was
          (hull.distinct x (rev x) was (rev_live (map_of s) x was) (ap (λ (j : ℕ). (at j).x) same ∙ ex) (ap (λ (j : ℕ). (at j).y) same ∙ ey)) in
          let on_line : (z : ℕ) → IsLive t z → orient2d_of (neighbor (suc i)) (at (end_of s x)) (p z) ≡ pos 0 =
          λ z live_z.
          all_on (at o) (neighbor i) (neighbor (suc i)) (neighbor (suc (suc i))) (at (end_of s x)) (p z) before after flat a b c differ
          (right_of z (cut.old z live_z)) (right (suc i) below z (cut.old z live_z) (λ is. cut.none z live_z (cut.same z live_z ∙ is))) in
          let corner = one_point (p g) (p (next_of s g)) (p (prev_of s g)) (neighbor (suc i)) (at (end_of s x)) (left_at m mesh triangles at plane g live_g inner_g)
          (on_line g one) (on_line (next_of s g) two) (on_line (prev_of s g) three) in
          differ corner.0 corner.1

      old_side : (x z : ℕ) → IsLive t x → face_of s x ≡ 0 → SideOf z → origin_of s x ≡ origin_of s z → ⊥
      old_side x z live_x on_x f same = by_place f.i f.below (same ∙ f.start)
        where
          by_place : (i : ℕ) → i < k → origin_of s x ≡ end_of s (spin (suc i)) → ⊥
          by_place zero below is = at_first x live_x on_x is
          by_place (suc i) below is = at_later x i live_x on_x below is

      pub cut_hull : IsHull at t
      cut_hull =
          cut_off_hull at s t o cut turned hull (λ x z live_x was side same. old_side x z live_x was (side_of z side.0 side.1 side.2 side.3 side.4) same)
          (λ x z side_x side same. one_side x z (side_of x side_x.0 side_x.1 side_x.2 side_x.3 side_x.4) (side_of z side.0 side.1 side.2 side.3 side.4) same)
