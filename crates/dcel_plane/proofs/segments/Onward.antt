-- From one half edge across a segment to the next, up to the segment's end.
use Rattle.std.proofs.Common.{◌≡◌, ◌≢◌, ◌⊎◌, inl, inr, ℕ, ◌*◌, ◌<◌, ◌≤◌, List, [], ◌∷◌, refl, sym, ap, ◌∙◌, subst, ℤ, pos, ◌-ℤ◌, ◌*ℤ◌, ◌<ℤ◌, ◌≤ℤ◌, eq-zero-or-pos, arith}
use Rattle.std.proofs.lemmas.Bool.{cases_eq}
use Rattle.std.proofs.lemmas.Int.{by_lt_z}
use Rattle.dcel_fixed.specs.HalfEdges.{rev}
use Rattle.dcel_fixed.proofs.Halves.{rev-rev}
use Rattle.dcel_predicates.specs.declared.point.Point.{Point}
use Rattle.dcel_predicates.specs.Determinants.{orient2d_of}
use Rattle.dcel_predicates.proofs.Points.{orient2d-first_swapped, orient2d-turned}
use Rattle.dcel_predicates.proofs.Signs.{ordered}
use Rattle.dcel_maps.specs.Shapes.{IsLive, IsMesh, Mesh, Shape, end_of, face_of, map_of, next_of, origin_of, prev_of}
use Rattle.dcel_maps.specs.Triangulations.{AllTriangles}
use Rattle.dcel_maps.specs.Words.{count_of}
use Rattle.dcel_maps.proofs.maps.Soundness.{rev_live}
use Rattle.dcel_maps.proofs.maps.Triangles.{IsTriangleOf}
use Rattle.dcel_maps.proofs.walks.Links.{half-below}
use Rattle.dcel_maps.proofs.words.Counts.{count-equal, count-other}
use Rattle.dcel_plane.specs.Plane.{TrianglesTurnLeft, TurnsLeft}
use Rattle.dcel_plane.specs.covering.Covering.{Covers, IsConvex, IsHull, dot}
use Rattle.dcel_plane.specs.segments.Segments.{AreEnds, Crosses, IsClear, IsCorner, LeadsThrough, corner_beyond, orient2d_by, width}
use Rattle.dcel_plane.proofs.covering.Apart.{apart_at}
use Rattle.dcel_plane.proofs.segments.Channels.{all_cross}
use Rattle.dcel_plane.proofs.segments.Gates.{far, inner_far, left_far}
use Rattle.dcel_plane.proofs.covering.Inside.{on_end, on_start}
use Rattle.dcel_plane.proofs.segments.Levers.{ahead_at_left, ahead_at_right, further_at_left, further_at_right, holds_left, holds_right, inside_left, inside_right}
use Rattle.dcel_plane.proofs.covering.Powers.{less_first}
use Rattle.dcel_plane.proofs.covering.Climbing.{strive}

module _ {V DE UE F : Type 0} (m : Mesh V DE UE F) (mesh : IsMesh m) (triangles : AllTriangles m.shape) (at : ℕ → Point) (plane : TrianglesTurnLeft at m.shape)
    (convex : IsConvex at m.shape) (hull : IsHull at m.shape) (v w : ℕ) (ends : AreEnds m.shape v w) where
  abbrev s : Shape
  s = m.shape

  abbrev off : ℕ → ℤ
  off k = orient2d_by at v w k

  at_v : off v ≡ pos 0
  at_v = on_end (at v) (at w)

  at_w : off w ≡ pos 0
  at_w = on_start (at v) (at w)

  -- k crosses the segment further along than h
  pub record IsFurther (h k : ℕ) : Type 0 where
    pub less : (orient2d_of (at (origin_of s h)) (at (end_of s h)) (at v) *ℤ width at s v w k) <ℤ (orient2d_of (at (origin_of s k)) (at (end_of s k)) (at v) *ℤ width at s v w h)

  pub further_itself : (h : ℕ) → IsFurther h h → ⊥
  further_itself h is = (let l = is.less in omega (arith, ordered, l))

  wide : (h : ℕ) → Crosses at s v w h → pos 0 <ℤ width at s v w h
  wide h c = (let a = c.left in let b = c.right in omega (arith, ordered, a, b))

  pub further_along : (h k j : ℕ) → Crosses at s v w h → Crosses at s v w k → Crosses at s v w j → IsFurther h k → IsFurther k j → IsFurther h j
  further_along h k j ch ck cj first second = record {
    less =
        less_first (orient2d_of (at (origin_of s h)) (at (end_of s h)) (at v)) (width at s v w h) (orient2d_of (at (origin_of s k)) (at (end_of s k)) (at v)) (width at s v w k)
        (orient2d_of (at (origin_of s j)) (at (end_of s j)) (at v)) (width at s v w j) (wide h ch) (wide k ck) (wide j cj) first.less (let l = second.less in omega (arith, ordered, l));
  }

  -- by the ends
  pub record Ahead (a b c d : ℕ) : Type 0 where
    pub right : off c <ℤ pos 0
    pub left : pos 0 <ℤ off d
    pub near : TurnsLeft (at c) (at d) (at v)
    pub far : orient2d_of (at c) (at d) (at w) <ℤ pos 0
    pub less : (orient2d_of (at a) (at b) (at v) *ℤ (off d -ℤ off c)) <ℤ (orient2d_of (at c) (at d) (at v) *ℤ (off b -ℤ off a))

  ahead_as : (a b c d c' d' : ℕ) → c ≡ c' → d ≡ d' → Ahead a b c d → Ahead a b c' d'
  ahead_as a b c d c' d' ec ed is = subst (λ (i : ℕ). Ahead a b c' i) ed (subst (λ (i : ℕ). Ahead a b i d) ec is)

  module _ (h : ℕ) (crosses : Crosses at m.shape v w h) where
    abbrev r : ℕ
    r = origin_of m.shape h

    abbrev l : ℕ
    l = end_of m.shape h

    abbrev y : ℕ
    y = corner_beyond m.shape h

    tri : IsTriangleOf (map_of s) (face_of s (rev h)) (rev h) (next_of s (rev h)) (prev_of s (rev h))
    tri = far m mesh triangles at plane convex v w ends h crosses

    left : TurnsLeft (at l) (at r) (at y)
    left = left_far m mesh triangles at plane convex v w ends h crosses

    back : IsLive s (rev h)
    back = rev_live (map_of s) h crosses.live

    next_from : origin_of s (next_of s (rev h)) ≡ r
    next_from = mesh.sound.joined (rev h) back ∙ ap (origin_of s) (rev-rev h)

    next_to : end_of s (next_of s (rev h)) ≡ y
    next_to = sym (mesh.sound.joined (next_of s (rev h)) tri.live_y) ∙ ap (origin_of s) tri.next_y

    prev_to : end_of s (prev_of s (rev h)) ≡ l
    prev_to = sym (mesh.sound.joined (prev_of s (rev h)) tri.live_z) ∙ ap (origin_of s) tri.next_z

    after : pos 0 <ℤ orient2d_of (at l) (at r) (at w)
    after = (let e = orient2d-first_swapped (at r) (at l) (at w) in let c = crosses.far in omega (arith, ordered, e, c))

    -- the segment's end lies in no triangle, but at its corners
    not_covered : w ≢ y → pos 0 ≤ℤ orient2d_of (at r) (at y) (at w) → pos 0 ≤ℤ orient2d_of (at y) (at l) (at w) → ⊥
    not_covered not_y two three =
        apart_at m mesh triangles at plane convex hull (rev h) back (inner_far m mesh triangles at plane convex v w ends h crosses) ends.j ends.live_j
        (λ is. (let z = subst (λ (i : ℕ). off i ≡ pos 0) (sym ends.from_j ∙ is) at_w in let a = crosses.left in omega (arith, ordered, z, a)))
        (λ is. (let z = subst (λ (i : ℕ). off i ≡ pos 0) (sym ends.from_j ∙ is ∙ next_from) at_w in let a = crosses.right in omega (arith, ordered, z, a)))
        (λ is. not_y (sym ends.from_j ∙ is))
        (subst (λ (i : ℕ). Covers (at l) (at i) (at y) (at (origin_of s ends.j))) (sym next_from)
        (subst (λ (i : ℕ). Covers (at l) (at r) (at y) (at i)) (sym ends.from_j) (let a = after in omega (arith, ordered, a), two, three)))

    -- the next one, if the segment doesn't end
    pub record Next : Type 0 where
      pub half : ℕ
      pub crosses_too : Crosses at s v w half
      pub face : face_of s half ≡ face_of s (rev h)
      pub further : IsFurther h half

    pub over_right : pos 0 <ℤ off y → Next
    over_right hy =
        let turned : TurnsLeft (at r) (at y) (at l) = subst (λ z. pos 0 <ℤ z) (sym (orient2d-turned (at l) (at r) (at y))) left in
        let is : Ahead r l r y = record {
          right = crosses.right;
          left = hy;
          near = ahead_at_right (at v) (at w) (at r) (at l) (at y) (at v) crosses.right crosses.left hy at_v crosses.near turned;
          far =
              by_lt_z (orient2d_of (at r) (at y) (at w)) (pos 0) (λ less. less)
              (λ not. absurd
              (not_covered (λ same. (let z = subst (λ (i : ℕ). off i ≡ pos 0) same at_w in omega (arith, ordered, z, hy))) not
              (inside_right (at v) (at w) (at l) (at r) (at y) (at w) crosses.left crosses.right hy at_w (let a = after in omega (arith, ordered, a)) not)));
          less = further_at_right (at v) (at w) (at r) (at l) (at y) (at v) crosses.right at_v turned;
        } in
        let there = ahead_as r l r y (origin_of s (next_of s (rev h))) (end_of s (next_of s (rev h))) (sym next_from) (sym next_to) is in
        record {
          half = next_of s (rev h);
          crosses_too = record { live = tri.live_y; right = there.right; left = there.left; near = there.near; far = there.far };
          face = tri.face_y;
          further = record { less = there.less };
        }

    pub over_left : off y <ℤ pos 0 → Next
    over_left hy =
        let is : Ahead r l y l = record {
          right = hy;
          left = crosses.left;
          near = ahead_at_left (at v) (at w) (at l) (at r) (at y) (at v) crosses.left crosses.right hy at_v crosses.near left;
          far =
              by_lt_z (orient2d_of (at y) (at l) (at w)) (pos 0) (λ less. less)
              (λ not. absurd
              (not_covered (λ same. (let z = subst (λ (i : ℕ). off i ≡ pos 0) same at_w in omega (arith, ordered, z, hy)))
              (inside_left (at v) (at w) (at l) (at r) (at y) (at w) crosses.left crosses.right hy at_w (let a = after in omega (arith, ordered, a)) not) not));
          less = further_at_left (at v) (at w) (at r) (at l) (at y) (at v) crosses.left at_v left;
        } in
        let there = ahead_as r l y l (origin_of s (prev_of s (rev h))) (end_of s (prev_of s (rev h))) refl (sym prev_to) is in
        record {
          half = prev_of s (rev h);
          crosses_too = record { live = tri.live_z; right = there.right; left = there.left; near = there.near; far = there.far };
          face = tri.face_z;
          further = record { less = there.less };
        }

    pub right_is : (hy : pos 0 <ℤ off y) → (over_right hy).half ≡ next_of s (rev h)
    unfolding over_right
    right_is hy = refl

    pub left_is : (hy : off y <ℤ pos 0) → (over_left hy).half ≡ prev_of s (rev h)
    unfolding over_left
    left_is hy = refl

    pub crosses_after : pos 0 <ℤ off y → Crosses at s v w (next_of s (rev h))
    unfolding over_right
    crosses_after hy = (over_right hy).crosses_too

    pub crosses_before : off y <ℤ pos 0 → Crosses at s v w (prev_of s (rev h))
    unfolding over_left
    crosses_before hy = (over_left hy).crosses_too

    -- a corner on the segment's line is its end, if it doesn't lie between its ends
    pub on_line : off y ≡ pos 0 → pos 0 ≤ℤ dot (at v) (at w) (at y) → w ≡ y
    on_line zero apart = elim (cases_eq w y) [
      | inl is ↦ is
      | inr not ↦
          let before : orient2d_of (at l) (at r) (at v) <ℤ pos 0 = (let e = orient2d-first_swapped (at r) (at l) (at v) in let c = crosses.near in omega (arith, ordered, e, c)) in
          absurd
          (not_covered not (holds_right (at v) (at w) (at r) (at l) (at y) zero (omega (arith, ordered, before)) after left apart crosses.right)
          (holds_left (at v) (at w) (at r) (at l) (at y) zero (omega (arith, ordered, before)) after left apart crosses.left))
    ]

    pub onward : IsClear at s v w → (w ≡ y) ⊎ Next
    onward clear =
        by_lt_z (off y) (pos 0) (λ less. inr (over_left less))
        (λ not. by_lt_z (pos 0) (off y) (λ more. inr (over_right more))
        (λ nor. let zero : off y ≡ pos 0 = omega (arith, ordered, not, nor) in inl (on_line zero (clear.clear (prev_of s (rev h)) tri.live_z zero))))

  -- the rest of the list after h
  pub record Tail (h : ℕ) : Type 0 where
    pub rest : List ℕ
    pub last : ℕ
    pub leads : LeadsThrough at s v w (face_of s (rev h)) rest last
    pub end : IsCorner s last w
    pub higher : (j : ℕ) → 0 < count_of j rest → IsFurther h j
    pub once : (j : ℕ) → count_of j rest ≤ 1

  no_tail : (h : ℕ) → Crosses at s v w h → w ≡ corner_beyond s h → Tail h
  no_tail h c is = record {
    rest = [];
    last = face_of s (rev h);
    leads = refl;
    end = record { side = prev_of s (rev h); live = (tri h c).live_z; on = (tri h c).face_z; from = sym is };
    higher = λ j found. absurd (omega (arith, found));
    once = λ j. omega arith;
  }

  longer : (h : ℕ) (c : Crosses at s v w h) (next : Next h c) → Tail next.half → Tail h
  longer h c next tail =
      let k = next.half in
      let found : (j : ℕ) → 0 < count_of j tail.rest → Crosses at s v w j = all_cross at s v w (face_of s (rev k)) tail.last tail.rest tail.leads in
      record {
        rest = next.half ∷ tail.rest;
        last = tail.last;
        leads = (next.crosses_too, next.face, tail.leads);
        end = tail.end;
        higher = λ j among. elim (cases_eq j next.half) [
          | inl is ↦ subst (λ (i : ℕ). IsFurther h i) (sym is) next.further
          | inr not ↦
              let in_rest : 0 < count_of j tail.rest = (let d = count-other j next.half tail.rest not in omega (arith, d, among)) in
              further_along h next.half j c next.crosses_too (all_cross at s v w (face_of s (rev next.half)) tail.last tail.rest tail.leads j in_rest) next.further (tail.higher j in_rest)
        ];
        once = λ j. elim (cases_eq j next.half) [
          | inr not ↦ (let d = count-other j next.half tail.rest not in let o = tail.once j in omega (arith, d, o))
          | inl is ↦ elim (eq-zero-or-pos (count_of j tail.rest)) [
            | inl none ↦ (let d = count-equal j next.half tail.rest is in omega (arith, d, none))
            | inr some ↦ absurd (further_itself next.half (subst (λ (i : ℕ). IsFurther next.half i) is (tail.higher j some)))
          ]
        ];
      }

  pub tail : IsClear at s v w → (h : ℕ) → Crosses at s v w h → Tail h
  tail clear h c =
      strive (Tail h) (2 * s.edges) IsFurther (λ k. Crosses at s v w k × (Tail k → Tail h)) (λ k q. half-below s k q.0.live)
      (record {
        itself = λ k q. further_itself k;
        along = λ i j k qi qj qk. further_along i j k qi.0 qj.0 qk.0;
        better = λ k q. elim (onward k q.0 clear) [
          | inl ends_here ↦ inl (q.1 (no_tail k q.0 ends_here))
          | inr next ↦ inr (next.half, (next.crosses_too, λ t. q.1 (longer k q.0 next t)), next.further)
        ];
      })
      h (c, λ t. t)
