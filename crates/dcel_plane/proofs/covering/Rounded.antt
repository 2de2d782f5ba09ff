-- An outer face that goes round is a convex hull: what is tested edge by edge holds of all vertices.
use Rattle.std.proofs.Common.{◌≡◌, ◌⊎◌, inl, inr, ℕ, ◌<◌, refl, sym, ap, ◌∙◌, subst, ℤ, pos, ◌+ℤ◌, ◌-ℤ◌, ◌*ℤ◌, ◌<ℤ◌, ◌≤ℤ◌, eq-zero-or-pos, arith}
use Rattle.std.proofs.lemmas.Bool.{cases_eq}
use Rattle.std.proofs.lemmas.Int.{by_lt_z}
use Rattle.dcel_fixed.specs.HalfEdges.{rev}
use Rattle.dcel_fixed.proofs.Halves.{rev-rev}
use Rattle.dcel_predicates.specs.declared.point.Point.{Point}
use Rattle.dcel_predicates.specs.Determinants.{orient2d_of}
use Rattle.dcel_predicates.proofs.Points.{orient2d-first_swapped, orient2d-last_swapped, orient2d-turned}
use Rattle.dcel_predicates.proofs.Signs.{both_negative, ordered, square, times, times_positive}
use Rattle.dcel_maps.specs.Shapes.{IsLive, IsMesh, Mesh, Shape, face_of, map_of, next_of, origin_of, prev_of}
use Rattle.dcel_maps.specs.Triangulations.{AllTriangles}
use Rattle.dcel_maps.proofs.maps.Soundness.{rev_live}
use Rattle.dcel_plane.specs.Plane.{TrianglesTurnLeft}
use Rattle.dcel_plane.specs.covering.Covering.{IsConvex, IsHull, dot}
use Rattle.dcel_plane.specs.covering.Places.{IsIn, IsStrictlyIn, Place, orient_at}
use Rattle.dcel_plane.specs.covering.Round.{GoesRoundOnce, IsRightOf, LeadsLeft, LeadsRight}
use Rattle.dcel_plane.proofs.covering.Along.{by_place, dot_start, first_weight, long, no_height, none_first, one_point, second_weight}
use Rattle.dcel_plane.proofs.covering.Cones.{nothing}
use Rattle.dcel_plane.proofs.covering.Inside.{as_covered, as_place, closed_disjoint, left, middle, middle_inside, near_place, nudged, nudged-is, on_end, on_start, place_of, same_place}
use Rattle.dcel_plane.proofs.covering.Leading.{all_level, one_spot, right_or_not}
use Rattle.dcel_plane.proofs.covering.Products.{outweighs, positive_factor, times_below}
use Rattle.dcel_plane.proofs.covering.Rounds.{disjoint, ends_differ, no_turn, once_left, once_right, outer_right}
use Rattle.dcel_plane.proofs.covering.Triangles.{disjoint_halves, left_at, round, same_face}

-- a corner lies in its triangle
own_corner : (a b c : Point) → pos 0 <ℤ orient2d_of a b c → IsIn a b c (place_of a)
own_corner a b c turn =
    let x = on_end a b in
    let y = on_start c a in
    let z = orient2d-turned a b c in
    as_covered a b c a (omega (arith, ordered, x), omega (arith, ordered, z, turn), omega (arith, ordered, y))

one_place_of : (a b : Point) → a.x ≡ b.x → a.y ≡ b.y → place_of a ≡ place_of b
one_place_of a b ex ey = rw (ex, ey) refl

-- Of two triangles with a corner at one point, and a place inside the first one between the two sides of the other one there, some place lies in both.
record InBoth (a b c x y z : Point) : Type 0 where
  place : Place
  inside : IsStrictlyIn a b c place
  within : IsIn x y z place

module _ (a b c x y z : Point) (ex : a.x ≡ x.x) (ey : a.y ≡ x.y) (turn : pos 0 <ℤ orient2d_of a b c) (turn_x : pos 0 <ℤ orient2d_of x y z) (r : Place) (inside : IsStrictlyIn a b c r)
    (first : pos 0 ≤ℤ orient_at x y r) (last : pos 0 ≤ℤ orient_at z x r) where
  abbrev n : ℤ
  n = pos 1 +ℤ (orient_at y z r *ℤ orient_at y z r)

  more : pos 0 <ℤ n
  more = let q = square (orient_at y z r) in omega (arith, ordered, q)

  near : Place
  near = nudged n more (place_of a) r

  near-is : (u v : Point) → orient_at u v near ≡ (n *ℤ orient_at u v (place_of a)) +ℤ orient_at u v r
  unfolding near
  near-is u v = nudged-is n more (place_of a) r u v

  positive : (u v : Point) → pos 0 ≤ℤ orient_at u v (place_of a) → pos 0 <ℤ orient_at u v r → pos 0 <ℤ orient_at u v near
  positive u v not is = let t = times n (orient_at u v (place_of a)) (let m = more in omega (arith, ordered, m)) not in let e = near-is u v in omega (arith, ordered, t, e, is)

  not_negative : (u v : Point) → pos 0 ≤ℤ orient_at u v (place_of a) → pos 0 ≤ℤ orient_at u v r → pos 0 ≤ℤ orient_at u v near
  not_negative u v not is = let t = times n (orient_at u v (place_of a)) (let m = more in omega (arith, ordered, m)) not in let e = near-is u v in omega (arith, ordered, t, e, is)

  in_both : InBoth a b c x y z
  in_both =
      let own = own_corner a b c turn in
      let other = subst (λ (q : Place). IsIn x y z q) (sym (one_place_of a x ex ey)) (own_corner x y z turn_x) in
      let far : pos 0 <ℤ orient_at y z (place_of a) =
      (let e = as_place y z a in let f = same_place y z a x ex ey in let g = orient2d-turned x y z in omega (arith, ordered, e, f, g, turn_x)) in
      record {
        place = near;
        inside = (positive a b own.0 inside.0, positive b c own.1 inside.1, positive c a own.2 inside.2);
        within = (
          not_negative x y other.0 first,
          (let e = near-is y z in let o = outweighs n (orient_at y z (place_of a)) (orient_at y z r) far (omega (arith, ordered)) in omega (arith, ordered, e, o)),
          not_negative z x other.2 last,
        );
      }

module _ {V DE UE F : Type 0} (m : Mesh V DE UE F) (mesh : IsMesh m) (triangles : AllTriangles m.shape) (at : ℕ → Point) (plane : TrianglesTurnLeft at m.shape) (goes : GoesRoundOnce at m.shape) where
  abbrev s : Shape
  s = m.shape

  abbrev p : ℕ → Point
  p h = at (origin_of s h)

  turn_at : (h : ℕ) → IsLive s h → 0 < face_of s h → pos 0 <ℤ orient2d_of (p h) (p (next_of s h)) (p (prev_of s h))
  turn_at h live inner = left_at m mesh triangles at plane h live inner

  -- a triangle at each vertex
  record Corner (k : ℕ) : Type 0 where
    i : ℕ
    live : IsLive s i
    inner : 0 < face_of s i
    from : origin_of s i ≡ origin_of s k

  corner : (k : ℕ) → IsLive s k → Corner k
  corner k live = elim (eq-zero-or-pos (face_of s k)) [
    | inr inner ↦ record { i = k; live = live; inner = inner; from = refl }
    | inl outer ↦
        let back = rev_live (map_of s) k live in
        let inner = goes.inner k live outer in
        let tri = round m mesh triangles (rev k) back inner in
        record {
          i = next_of s (rev k);
          live = tri.live_y;
          inner = subst (λ (i : ℕ). 0 < i) (sym tri.face_y) inner;
          from = mesh.sound.joined (rev k) back ∙ ap (origin_of s) (rev-rev k);
        }
  ]

  -- no vertex lies on the left of the outer face
  right : (h k : ℕ) → IsLive s h → face_of s h ≡ 0 → IsLive s k → orient2d_of (p h) (p (rev h)) (p k) ≤ℤ pos 0
  right h k live outer live_k =
      by_lt_z (pos 0) (orient2d_of (p h) (p (rev h)) (p k))
      (λ left_of.
      let c = corner k live_k in
      let x = p c.i in
      let y = p (next_of s c.i) in
      let z = p (prev_of s c.i) in
      let turn = turn_at c.i c.live c.inner in
      let at_corner : pos 0 <ℤ orient_at (p h) (p (rev h)) (place_of x) =
      subst (λ o. pos 0 <ℤ o) (sym (as_place (p h) (p (rev h)) x)) (subst (λ (v : ℕ). pos 0 <ℤ orient2d_of (p h) (p (rev h)) (at v)) (sym c.from) left_of) in
      let q = near_place (p h) (p (rev h)) (p h) (p (rev h)) (p h) (p (rev h)) (p h) (p (rev h)) x y z (place_of x) at_corner at_corner at_corner at_corner turn (own_corner x y z turn) in
      let not = outer_right m mesh triangles at plane goes q.place c.i c.live c.inner q.inside h live outer in
      let is = q.first in
      absurd (omega (arith, ordered, not, is)))
      (λ not. not)

  -- different vertices stand at different points
  distinct : (h k : ℕ) → IsLive s h → IsLive s k → (p h).x ≡ (p k).x → (p h).y ≡ (p k).y → origin_of s h ≡ origin_of s k
  distinct h k live_h live_k ex ey = elim (cases_eq (origin_of s h) (origin_of s k)) [
    | inl same ↦ same
    | inr differ ↦
        let c = corner h live_h in
        let d = corner k live_k in
        let v = origin_of s k in
        let b = next_of s c.i in
        let l = prev_of s c.i in
        let turn = turn_at c.i c.live c.inner in
        let r = middle (p c.i) (p b) (p l) in
        let inside = middle_inside (p c.i) (p b) (p l) turn in
        let x_same : (p c.i).x ≡ (at v).x = ap (λ (w : ℕ). (at w).x) c.from ∙ ex in
        let y_same : (p c.i).y ≡ (at v).y = ap (λ (w : ℕ). (at w).y) c.from ∙ ey in
        absurd
        (nothing m mesh triangles at plane r (λ g live_g outer_g. outer_right m mesh triangles at plane goes r c.i c.live c.inner inside g live_g outer_g) v
        (λ x spoke within. shared c.i x c.live c.inner spoke.live spoke.inner turn r inside
        (x_same ∙ ap (λ (w : ℕ). (at w).x) (sym spoke.from)) (y_same ∙ ap (λ (w : ℕ). (at w).y) (sym spoke.from)) within
        (λ same. differ (sym c.from ∙ same ∙ spoke.from)))
        d.i record { live = d.live; inner = d.inner; from = d.from })
  ]
    where
      shared : (c x : ℕ) → IsLive s c → 0 < face_of s c → IsLive s x → 0 < face_of s x → pos 0 <ℤ orient2d_of (p c) (p (next_of s c)) (p (prev_of s c)) → (r : Place)
          → IsStrictlyIn (p c) (p (next_of s c)) (p (prev_of s c)) r → (p c).x ≡ (p x).x → (p c).y ≡ (p x).y
          → (pos 0 ≤ℤ orient_at (p x) (p (next_of s x)) r) × (pos 0 ≤ℤ orient_at (p (prev_of s x)) (p x) r) → (origin_of s c ≡ origin_of s x → ⊥) → ⊥
      shared c x live_c inner_c live_x inner_x turn r inside ex ey within differ =
          let b = next_of s c in
          let l = prev_of s c in
          let turn_x = turn_at x live_x inner_x in
          let both = in_both (p c) (p b) (p l) (p x) (p (next_of s x)) (p (prev_of s x)) ex ey turn turn_x r inside within.0 within.1 in
          elim (cases_eq (face_of s c) (face_of s x)) [
            | inr other ↦
                closed_disjoint (p c) (p b) (p l) (p x) (p (next_of s x)) (p (prev_of s x))
                (disjoint_halves m mesh triangles at (disjoint m mesh triangles at plane goes) c x live_c inner_c live_x inner_x other) turn_x both.place both.inside both.within
            | inl one ↦
                let not_b : origin_of s b ≡ origin_of s x → ⊥ =
                λ is. no_turn (p c) (p b) (p l) turn (ex ∙ ap (λ (w : ℕ). (at w).x) (sym is)) (ey ∙ ap (λ (w : ℕ). (at w).y) (sym is)) in
                let not_l : origin_of s l ≡ origin_of s x → ⊥ =
                λ is. no_turn (p l) (p c) (p b) (let t = orient2d-turned (p l) (p c) (p b) in omega (arith, ordered, t, turn))
                (ap (λ (w : ℕ). (at w).x) is ∙ sym ex) (ap (λ (w : ℕ). (at w).y) is ∙ sym ey) in
                (same_face m mesh triangles (λ i j k. (origin_of s i ≡ origin_of s x → ⊥) × (origin_of s j ≡ origin_of s x → ⊥) × (origin_of s k ≡ origin_of s x → ⊥))
                (λ i j k not. (not.1, not.2, not.0)) c x live_c inner_c live_x inner_x one (differ, not_b, not_l)).0 refl
          ]

  -- none lies between the ends of an outer half edge
  module _ (h k : ℕ) (live : IsLive s h) (outer : face_of s h ≡ 0) (live_k : IsLive s k) (on : orient2d_of (p h) (p (rev h)) (p k) ≡ pos 0) (amid : dot (p h) (p (rev h)) (p k) <ℤ pos 0) where
    abbrev r : ℕ
    r = rev h

    abbrev pa : Point
    pa = p h

    abbrev pb : Point
    pb = p r

    abbrev pc : Point
    pc = p (prev_of s r)

    abbrev pk : Point
    pk = p k

    live_r : IsLive s r
    live_r = rev_live (map_of s) h live

    inner_r : 0 < face_of s r
    inner_r = goes.inner h live outer

    meets : p (next_of s r) ≡ pa
    meets = ap at (mesh.sound.joined r live_r ∙ ap (origin_of s) (rev-rev h))

    turn : pos 0 <ℤ orient2d_of pb pa pc
    turn = subst (λ (q : Point). pos 0 <ℤ orient2d_of pb q pc) meets (turn_at r live_r inner_r)

    on_too : orient2d_of pb pa pk ≡ pos 0
    on_too = let e = orient2d-first_swapped pa pb pk in omega (arith, ordered, e, on)

    far : pos 0 <ℤ dot pb pb pa
    far = long pb pa (λ ex ey. ends_differ m mesh triangles at plane goes h live outer (sym ex) (sym ey))

    product : ((dot pa pb pa -ℤ dot pk pb pa) *ℤ (dot pb pb pa -ℤ dot pk pb pa)) <ℤ pos 0
    product =
        let t = times_below (dot pb pb pa) (dot pa pb pk) far amid in
        let e = by_place pa pb pa pb pk far (on_end pa pb) (on_start pa pb) on in
        let z = no_height pa pb pa pb pk far (on_end pa pb) (on_start pa pb) on in
        omega (arith, ordered, t, e, z)

    past_start : pos 0 <ℤ dot pk pb pa
    past_start =
        by_lt_z (pos 0) (dot pk pb pa) (λ more. more)
        (λ not. absurd (let d = dot_start pb pa in let f = far in let q = product in
        let t = times (dot pa pb pa -ℤ dot pk pb pa) (dot pb pb pa -ℤ dot pk pb pa) (omega (arith, ordered, d, not)) (omega (arith, ordered, f, not)) in omega (arith, ordered, t, q)))

    before_end : dot pk pb pa <ℤ dot pb pb pa
    before_end =
        by_lt_z (dot pk pb pa) (dot pb pb pa) (λ less. less)
        (λ not. absurd (let d = dot_start pb pa in let f = far in let q = product in
        let t = both_negative (dot pa pb pa -ℤ dot pk pb pa) (dot pb pb pa -ℤ dot pk pb pa) (omega (arith, ordered, d, f, not)) (omega (arith, ordered, not)) in omega (arith, ordered, t, q)))

    left_first : pos 0 <ℤ orient2d_of pa pc pk
    left_first =
        let t = times_positive (dot pk pb pa) (orient2d_of pb pa pc) past_start turn in
        let e = first_weight pb pa pc pk in
        let z = none_first (orient2d_of pb pa pk) (dot pc pb pa) on_too in
        positive_factor (orient2d_of pa pc pk) (dot pb pb pa) far (omega (arith, ordered, t, e, z))

    left_second : pos 0 <ℤ orient2d_of pc pb pk
    left_second =
        let b = before_end in
        let t = times_positive (dot pb pb pa -ℤ dot pk pb pa) (orient2d_of pb pa pc) (omega (arith, ordered, b)) turn in
        let e = second_weight pb pa pc pk in
        let z = none_first (orient2d_of pb pa pk) (dot pb pb pa -ℤ dot pc pb pa) on_too in
        positive_factor (orient2d_of pc pb pk) (dot pb pb pa) far (omega (arith, ordered, t, e, z))

    -- no corner of the triangle stands there
    not_b : origin_of s r ≡ origin_of s k → ⊥
    not_b is = let b = before_end in let e = ap (λ (v : ℕ). dot (at v) pb pa) is in omega (arith, ordered, b, e)

    not_a : origin_of s (next_of s r) ≡ origin_of s k → ⊥
    not_a is = let b = past_start in let e = ap (λ (q : Point). dot q pb pa) (sym meets ∙ ap at is) in let d = dot_start pb pa in omega (arith, ordered, b, e, d)

    not_c : origin_of s (prev_of s r) ≡ origin_of s k → ⊥
    not_c is = let t = turn in let e = ap (λ (v : ℕ). orient2d_of pb pa (at v)) is in let z = on_too in omega (arith, ordered, t, e, z)

    -- the half edge from there has an inner place on its left
    not_right : (c : ℕ) → IsLive s c → pos 0 ≤ℤ orient2d_of pb pa (p c)
    not_right c live_c = let o = right h c live outer live_c in let e = orient2d-first_swapped pa pb (p c) in omega (arith, ordered, o, e)

    pub none_between : ⊥
    none_between =
        let c = corner k live_k in
        let x = p c.i in
        let y = p (next_of s c.i) in
        let z = p (prev_of s c.i) in
        let tri = round m mesh triangles c.i c.live c.inner in
        let turn_c = turn_at c.i c.live c.inner in
        let stands : pk ≡ x = ap at (sym c.from) in
        let first : pos 0 <ℤ orient_at pa pc (place_of x) = subst (λ o. pos 0 <ℤ o) (sym (as_place pa pc x)) (subst (λ (q : Point). pos 0 <ℤ orient2d_of pa pc q) stands left_first) in
        let second : pos 0 <ℤ orient_at pc pb (place_of x) = subst (λ o. pos 0 <ℤ o) (sym (as_place pc pb x)) (subst (λ (q : Point). pos 0 <ℤ orient2d_of pc pb q) stands left_second) in
        let q = near_place pa pc pc pb pa pc pc pb x y z (place_of x) first second first second turn_c (own_corner x y z turn_c) in
        let rx = not_right c.i c.live in
        let ry = not_right (next_of s c.i) tri.live_y in
        let rz = not_right (prev_of s c.i) tri.live_z in
        let some : pos 0 <ℤ (orient2d_of pb pa x +ℤ orient2d_of pb pa y +ℤ orient2d_of pb pa z) =
        by_lt_z (pos 0) (orient2d_of pb pa x +ℤ orient2d_of pb pa y +ℤ orient2d_of pb pa z) (λ more. more)
        (λ not. absurd (let one = one_point x y z pb pa turn_c (omega (arith, ordered, rx, ry, rz, not)) (omega (arith, ordered, rx, ry, rz, not)) (omega (arith, ordered, rx, ry, rz, not)) in
        ends_differ m mesh triangles at plane goes h live outer (sym one.0) (sym one.1))) in
        let third = left x y z pb pa q.place turn_c rx ry rz some q.inside in
        let to = sym meets in
        let inside_r : IsStrictlyIn pb (p (next_of s r)) pc q.place =
        (subst (λ (g : Point). pos 0 <ℤ orient_at pb g q.place) to third, subst (λ (g : Point). pos 0 <ℤ orient_at g pc q.place) to q.first, q.second) in
        elim (cases_eq (face_of s r) (face_of s c.i)) [
          | inr other ↦ disjoint_halves m mesh triangles at (disjoint m mesh triangles at plane goes) r c.i live_r inner_r c.live c.inner other q.place inside_r q.inside
          | inl one ↦
              (same_face m mesh triangles (λ i j l. (origin_of s i ≡ origin_of s k → ⊥) × (origin_of s j ≡ origin_of s k → ⊥) × (origin_of s l ≡ origin_of s k → ⊥))
              (λ i j l not. (not.1, not.2, not.0)) r c.i live_r inner_r c.live c.inner one (not_b, not_a, not_c)).0 c.from
        ]

  -- it passes no vertex twice
  opposite_ways : (h k : ℕ) → IsLive s h → IsLive s k → face_of s h ≡ 0 → face_of s k ≡ 0 → LeadsRight at s h → LeadsLeft at s k → origin_of s h ≡ origin_of s k → ⊥
  opposite_ways h k live_h live_k outer_h outer_k leads_h leads_k same =
      let r = rev h in
      let live_r = rev_live (map_of s) h live_h in
      let inner_r = goes.inner h live_h outer_h in
      let tri = round m mesh triangles r live_r inner_r in
      let start : p k ≡ p h = ap at (sym same) in
      let below : (w : ℕ) → IsLive s w → orient2d_of (p h) (p (rev k)) (p w) ≤ℤ pos 0 =
      λ w live_w. subst (λ (q : Point). orient2d_of q (p (rev k)) (p w) ≤ℤ pos 0) start (right k w live_k outer_k live_w) in
      let flat : orient2d_of (p h) (p r) (p (rev k)) ≡ pos 0 =
      (let o = right h (rev k) live_h outer_h (rev_live (map_of s) k live_k) in
      let q = below r live_r in
      let e = orient2d-last_swapped (p h) (p r) (p (rev k)) in
      omega (arith, ordered, o, q, e)) in
      let level : (w : ℕ) → IsLive s w → orient2d_of (p h) (p r) (p w) ≡ pos 0 =
      λ w live_w. all_level (p h) (p r) (p (rev k)) (p w) leads_h (subst (λ (q : Point). IsRightOf (p (rev k)) q) start leads_k) flat (right h w live_h outer_h live_w) (below w live_w) in
      let one = one_point (p r) (p (next_of s r)) (p (prev_of s r)) (p h) (p r) (turn_at r live_r inner_r) (level r live_r) (level (next_of s r) tri.live_y) (level (prev_of s r) tri.live_z) in
      ends_differ m mesh triangles at plane goes h live_h outer_h one.0 one.1

  way : (h : ℕ) → IsLive s h → face_of s h ≡ 0 → LeadsRight at s h ⊎ LeadsLeft at s h
  way h live outer = elim (right_or_not (p h) (p (rev h))) [
    | inl leads ↦ inl leads
    | inr not ↦ elim (right_or_not (p (rev h)) (p h)) [
      | inl leads ↦ inr leads
      | inr nor ↦ absurd (let same = one_spot (p h) (p (rev h)) not nor in ends_differ m mesh triangles at plane goes h live outer same.0 same.1)
    ]
  ]

  once : (h k : ℕ) → IsLive s h → IsLive s k → face_of s h ≡ 0 → face_of s k ≡ 0 → origin_of s h ≡ origin_of s k → h ≡ k
  once h k live_h live_k outer_h outer_k same = elim (way h live_h outer_h) [
    | inl right_h ↦ elim (way k live_k outer_k) [
      | inl right_k ↦ once_right m mesh triangles at plane goes h k live_h live_k outer_h outer_k right_h right_k same
      | inr left_k ↦ absurd (opposite_ways h k live_h live_k outer_h outer_k right_h left_k same)
    ]
    | inr left_h ↦ elim (way k live_k outer_k) [
      | inl right_k ↦ absurd (opposite_ways k h live_k live_h outer_k outer_h right_k left_h (sym same))
      | inr left_k ↦ once_left m mesh triangles at plane goes h k live_h live_k outer_h outer_k left_h left_k same
    ]
  ]

  pub round_convex : IsConvex at s
  round_convex = record {
    supports = λ h k live outer live_k. (
      right h k live outer live_k,
      λ on. by_lt_z (dot (p h) (p (rev h)) (p k)) (pos 0) (λ amid. absurd (none_between h k live outer live_k on amid)) (λ not. not),
    );
  }

  pub round_hull : IsHull at s
  round_hull = record { distinct = distinct; once = once }
