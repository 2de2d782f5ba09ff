-- No vertex lies in a triangle or on its border but its corners.
use Rattle.std.proofs.Common.{◌≡◌, ◌≢◌, inl, inr, ℕ, ◌<◌, refl, sym, ap, ◌∙◌, subst, pos, ◌-ℤ◌, ◌<ℤ◌, ◌≤ℤ◌, eq-zero-or-pos, arith}
use Rattle.std.proofs.lemmas.Int.{by_lt_z}
use Rattle.dcel_fixed.specs.HalfEdges.{rev}
use Rattle.dcel_fixed.proofs.Halves.{rev-rev}
use Rattle.dcel_predicates.specs.Determinants.{orient2d_of}
use Rattle.dcel_predicates.specs.declared.point.Point.{Point}
use Rattle.dcel_predicates.proofs.Points.{orient2d-first_swapped, orient2d-last_swapped, orient2d-turned}
use Rattle.dcel_predicates.proofs.Signs.{ordered}
use Rattle.dcel_maps.specs.Shapes.{IsLive, IsMesh, Mesh, Shape, end_of, face_of, map_of, next_of, origin_of, prev_of}
use Rattle.dcel_maps.specs.Triangulations.{AllTriangles}
use Rattle.dcel_maps.proofs.maps.Soundness.{rev_live}
use Rattle.dcel_maps.proofs.maps.Triangles.{IsTriangleOf}
use Rattle.dcel_plane.specs.Plane.{IsLeftOf, LiesAcross, TrianglesTurnLeft, TurnsLeft}
use Rattle.dcel_plane.proofs.edits.Across.{across_both}
use Rattle.dcel_plane.proofs.edits.Corners.{left_of_triangle}
use Rattle.dcel_plane.specs.covering.Covering.{Covers, IsApart, IsConvex, IsHull, dot}
use Rattle.dcel_plane.proofs.covering.Alone.{lies_within, none_inside, none_within}
use Rattle.dcel_plane.proofs.covering.Along.{between_ends, dot_start, long, one_point, placed}
use Rattle.dcel_plane.proofs.covering.Inside.{on_end, on_start}
use Rattle.dcel_plane.proofs.covering.Products.{below_times, zero_of}
use Rattle.dcel_plane.proofs.covering.Triangles.{at_word, is_triangle, meets, of_face, round, turned_triangle}

module _ {V DE UE F : Type 0} (m : Mesh V DE UE F) (mesh : IsMesh m) (triangles : AllTriangles m.shape) (at : ℕ → Point) (plane : TrianglesTurnLeft at m.shape)
    (convex : IsConvex at m.shape) (hull : IsHull at m.shape) where
  abbrev s : Shape
  s = m.shape

  abbrev p : ℕ → Point
  p h = at (origin_of s h)

  module _ (f x y z : ℕ) (tri : IsTriangleOf (map_of m.shape) f x y z) (inner : 0 < f) (k : ℕ) (live_k : IsLive m.shape k) where
    inner_x : 0 < face_of s x
    inner_x = let e = tri.face_x in subst (λ (g : ℕ). 0 < g) (sym tri.face_x) inner

    ends_x : origin_of s y ≡ end_of s x
    ends_x = meets m mesh f x y z tri

    left : TurnsLeft (p x) (p y) (p z)
    left = left_of_triangle at s mesh.sound plane f x y z inner tri

    left_of : (h b : ℕ) → b ≡ end_of s h → TurnsLeft (p h) (at b) (p k) → IsLeftOf at s (p k) h
    left_of h b is turns = subst (λ (j : ℕ). TurnsLeft (p h) (at j) (p k)) is turns

    -- not inside
    not_inside : TurnsLeft (p x) (p y) (p k) → TurnsLeft (p y) (p z) (p k) → TurnsLeft (p z) (p x) (p k) → ⊥
    not_inside xy yz zx =
        none_inside m mesh triangles at plane convex hull (p k) x tri.live_x inner_x (subst (λ (i : ℕ). TurnsLeft (p x) (p i) (p k)) (sym tri.next_x) xy)
        (subst (λ (i : ℕ). TurnsLeft (p i) (p (prev_of s x)) (p k)) (sym tri.next_x) (subst (λ (i : ℕ). TurnsLeft (p y) (p i) (p k)) (sym tri.prev_x) yz))
        (subst (λ (i : ℕ). TurnsLeft (p i) (p x) (p k)) (sym tri.prev_x) zx) k live_k refl refl

    -- nor on the side from x to y
    not_on_side : orient2d_of (p x) (p y) (p k) ≡ pos 0 → TurnsLeft (p y) (p z) (p k) → TurnsLeft (p z) (p x) (p k) → ⊥
    not_on_side on yz zx = elim (eq-zero-or-pos (face_of s (rev x))) [
      | inr facing ↦
          let across : LiesAcross at s x (p k) =
          λ j live_j on_j off.
          of_face m mesh f x y z tri (λ i. i ≢ x → IsLeftOf at s (p k) i) (λ not. absurd (not refl)) (λ not. left_of y (origin_of s z) (meets m mesh f y z x (turned_triangle (map_of s) f x y z tri)) yz) (λ not. left_of z (origin_of s x) (meets m mesh f z x y (turned_triangle (map_of s) f y z x (turned_triangle (map_of s) f x y z tri))) zx) j live_j
          (on_j ∙ tri.face_x) off in
          let on' : orient2d_of (p x) (at (end_of s x)) (p k) ≡ pos 0 = subst (λ (j : ℕ). orient2d_of (p x) (at j) (p k) ≡ pos 0) ends_x on in
          let back = rev_live (map_of s) x tri.live_x in
          let across_t = across_both m mesh at (p k) x tri.live_x (is_triangle m mesh triangles x tri.live_x inner_x) (is_triangle m mesh triangles (rev x) back facing) inner_x facing plane on' across in
          none_within m mesh triangles at plane convex hull (p k) x tri.live_x inner_x facing
          (lies_within m mesh triangles at plane convex hull (p k) x tri.live_x inner_x facing across across_t) k live_k refl refl
      | inl outer ↦
          let back = rev_live (map_of s) x tri.live_x in
          let on_too : orient2d_of (p y) (p x) (p k) ≡ pos 0 = (let o = orient2d-first_swapped (p x) (p y) (p k) in omega (arith, ordered, o, on)) in
          let b : orient2d_of (p y) (p x) (p k) ≡ pos 0 → pos 0 ≤ℤ dot (p y) (p x) (p k) =
          subst (λ (i : ℕ). orient2d_of (at i) (p x) (p k) ≡ pos 0 → pos 0 ≤ℤ dot (at i) (p x) (p k)) (sym ends_x)
          (subst (λ (i : ℕ). orient2d_of (at (end_of s x)) (at i) (p k) ≡ pos 0 → pos 0 ≤ℤ dot (at (end_of s x)) (at i) (p k)) (ap (origin_of s) (rev-rev x))
          (convex.supports (rev x) k back outer live_k).1) in
          let far : pos 0 <ℤ dot (p x) (p x) (p y) =
          long (p x) (p y) (λ ex ey. mesh.sound.two_ends x tri.live_x (hull.distinct x y tri.live_x tri.live_y ex ey ∙ ends_x)) in
          let is = between_ends (p x) (p y) (p z) (p k) far left yz zx on on_too in
          let q = placed (p y) (p x) (p y) (p x) (p k) far (on_end (p y) (p x)) (on_start (p y) (p x)) on_too (b on_too) in
          let d = dot_start (p x) (p y) in
          let i = is.above in
          let j = is.below in
          let t = below_times (dot (p y) (p x) (p y) -ℤ dot (p k) (p x) (p y)) (dot (p x) (p x) (p y) -ℤ dot (p k) (p x) (p y)) (omega (arith, ordered, d, i)) (omega (arith, ordered, j)) in
          omega (arith, ordered, q, t)
    ]

    -- on two sides there is their corner
    at_corner : orient2d_of (p x) (p y) (p k) ≡ pos 0 → orient2d_of (p y) (p z) (p k) ≡ pos 0 → origin_of s k ≡ origin_of s y
    at_corner xy yz =
        let a = orient2d-turned (p x) (p y) (p k) in
        let c = orient2d-last_swapped (p y) (p z) (p k) in
        let one = one_point (p x) (p y) (p z) (p y) (p k) left (omega (arith, ordered, a, xy)) (on_end (p y) (p k)) (omega (arith, ordered, c, yz)) in
        sym (hull.distinct y k tri.live_y live_k one.0 one.1)

  not_in : (f x y z : ℕ) → IsTriangleOf (map_of m.shape) f x y z → 0 < f → (k : ℕ) → IsLive m.shape k → origin_of s k ≢ origin_of s x → origin_of s k ≢ origin_of s y
      → origin_of s k ≢ origin_of s z → ¬ Covers (p x) (p y) (p z) (p k)
  not_in f x y z tri inner k live_k not_x not_y not_z covers =
      let tri_y = turned_triangle (map_of m.shape) f x y z tri in
      let tri_z = turned_triangle (map_of m.shape) f y z x tri_y in
      by_lt_z (pos 0) (orient2d_of (p x) (p y) (p k))
      (λ xy. by_lt_z (pos 0) (orient2d_of (p y) (p z) (p k))
      (λ yz. by_lt_z (pos 0) (orient2d_of (p z) (p x) (p k))
      (λ zx. not_inside f x y z tri inner k live_k xy yz zx)
      (λ no_zx. not_on_side f z x y tri_z inner k live_k (zero_of (orient2d_of (p z) (p x) (p k)) covers.2 no_zx) xy yz))
      (λ no_yz. by_lt_z (pos 0) (orient2d_of (p z) (p x) (p k))
      (λ zx. not_on_side f y z x tri_y inner k live_k (zero_of (orient2d_of (p y) (p z) (p k)) covers.1 no_yz) zx xy)
      (λ no_zx. not_z (at_corner f y z x tri_y inner k live_k (zero_of (orient2d_of (p y) (p z) (p k)) covers.1 no_yz) (zero_of (orient2d_of (p z) (p x) (p k)) covers.2 no_zx)))))
      (λ no_xy. by_lt_z (pos 0) (orient2d_of (p y) (p z) (p k))
      (λ yz. by_lt_z (pos 0) (orient2d_of (p z) (p x) (p k))
      (λ zx. not_on_side f x y z tri inner k live_k (zero_of (orient2d_of (p x) (p y) (p k)) covers.0 no_xy) yz zx)
      (λ no_zx. not_x (at_corner f z x y tri_z inner k live_k (zero_of (orient2d_of (p z) (p x) (p k)) covers.2 no_zx) (zero_of (orient2d_of (p x) (p y) (p k)) covers.0 no_xy))))
      (λ no_yz. not_y (at_corner f x y z tri inner k live_k (zero_of (orient2d_of (p x) (p y) (p k)) covers.0 no_xy) (zero_of (orient2d_of (p y) (p z) (p k)) covers.1 no_yz))))

  -- of a half edge
  pub apart_at : (h : ℕ) → IsLive s h → 0 < face_of s h → (k : ℕ) → IsLive s k → origin_of s k ≢ origin_of s h → origin_of s k ≢ origin_of s (next_of s h)
      → origin_of s k ≢ origin_of s (prev_of s h) → ¬ Covers (p h) (p (next_of s h)) (p (prev_of s h)) (p k)
  apart_at h live inner = not_in (face_of s h) h (next_of s h) (prev_of s h) (round m mesh triangles h live inner) inner

  pub mesh_apart : IsApart at m.shape
  mesh_apart = record {
    apart = λ f x y z k inner is live_k not_x not_y not_z.
        at_word m mesh triangles
        (λ a b c. origin_of s k ≢ origin_of s a → origin_of s k ≢ origin_of s b → origin_of s k ≢ origin_of s c → ¬ Covers (p a) (p b) (p c) (p k))
        (λ a b c holds not_b not_c not_a covers. holds not_a not_b not_c (covers.2, covers.0, covers.1))
        (λ h live inner_h. apart_at h live inner_h k live_k) f x y z inner is not_x not_y not_z;
  }
