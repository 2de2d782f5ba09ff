-- Triangles at half edges where the outer face is a convex hull: two are disjoint, and each vertex with an edge is a corner of one.
use Rattle.std.proofs.Common.{◌≡◌, ◌≢◌, inl, inr, ℕ, ◌<◌, refl, sym, ap, ◌∙◌, subst, ℤ, pos, ◌<ℤ◌, ◌≤ℤ◌, neg_ℤ, eq-zero-or-pos, arith}
use Rattle.dcel_fixed.specs.HalfEdges.{rev}
use Rattle.dcel_fixed.proofs.Halves.{rev-rev}
use Rattle.dcel_predicates.specs.Determinants.{orient2d_of}
use Rattle.dcel_predicates.specs.declared.point.Point.{Point}
use Rattle.dcel_predicates.proofs.Points.{orient2d-first_swapped}
use Rattle.dcel_predicates.proofs.Signs.{ordered}
use Rattle.dcel_maps.specs.Shapes.{IsLive, IsMesh, Mesh, Shape, face_of, map_of, next_of, origin_of, prev_of}
use Rattle.dcel_maps.specs.Triangulations.{AllTriangles}
use Rattle.dcel_maps.proofs.maps.Soundness.{rev_live}
use Rattle.dcel_plane.specs.Plane.{TrianglesTurnLeft}
use Rattle.dcel_plane.specs.covering.Covering.{IsConvex, IsHull}
use Rattle.dcel_plane.specs.covering.Places.{AreDisjoint}
use Rattle.dcel_plane.proofs.covering.Along.{one_point}
use Rattle.dcel_plane.proofs.covering.Overlaps.{disjoint_triangles}
use Rattle.dcel_plane.proofs.covering.Triangles.{disjoint_halves, left_at, round}

-- triangles whose corners are known by other numbers
pub six_corners : (at : ℕ → Point) (a b c d e f a' b' c' d' e' f' : ℕ) → a ≡ a' → b ≡ b' → c ≡ c' → d ≡ d' → e ≡ e' → f ≡ f'
    → AreDisjoint (at a) (at b) (at c) (at d) (at e) (at f) → AreDisjoint (at a') (at b') (at c') (at d') (at e') (at f')
six_corners at a b c d e f a' b' c' d' e' f' ea eb ec ed ee ef disjoint =
    subst (λ (k : ℕ). AreDisjoint (at a') (at b') (at c') (at d') (at e') (at k)) ef
    (subst (λ (k : ℕ). AreDisjoint (at a') (at b') (at c') (at d') (at k) (at f)) ee
    (subst (λ (k : ℕ). AreDisjoint (at a') (at b') (at c') (at k) (at e) (at f)) ed
    (subst (λ (k : ℕ). AreDisjoint (at a') (at b') (at k) (at d) (at e) (at f)) ec
    (subst (λ (k : ℕ). AreDisjoint (at a') (at k) (at c) (at d) (at e) (at f)) eb
    (subst (λ (k : ℕ). AreDisjoint (at k) (at b) (at c) (at d) (at e) (at f)) ea disjoint)))))

module _ {V DE UE F : Type 0} (m : Mesh V DE UE F) (mesh : IsMesh m) (triangles : AllTriangles m.shape) (at : ℕ → Point) (plane : TrianglesTurnLeft at m.shape)
    (convex : IsConvex at m.shape) (hull : IsHull at m.shape) where
  abbrev s : Shape
  s = m.shape

  abbrev p : ℕ → Point
  p h = at (origin_of s h)

  -- two inner faces by their half edges
  pub disjoint_at : (h t : ℕ) → IsLive s h → 0 < face_of s h → IsLive s t → 0 < face_of s t → face_of s h ≢ face_of s t
      → AreDisjoint (p h) (p (next_of s h)) (p (prev_of s h)) (p t) (p (next_of s t)) (p (prev_of s t))
  disjoint_at = disjoint_halves m mesh triangles at (disjoint_triangles m mesh triangles at plane convex hull)

  -- an edge with the outer face on both sides leaves no room for a triangle
  pub not_bare : (k h : ℕ) → IsLive s k → face_of s k ≡ 0 → face_of s (rev k) ≡ 0 → IsLive s h → 0 < face_of s h → ⊥
  not_bare k h live outer outer_too live_h inner_h =
      let tri = round m mesh triangles h live_h inner_h in
      let on : (i : ℕ) → IsLive s i → orient2d_of (p k) (p (rev k)) (p i) ≡ pos 0 =
      λ i live_i. both (orient2d_of (p k) (p (rev k)) (p i)) (orient2d_of (p (rev k)) (p k) (p i)) (convex.supports k i live outer live_i).0
      (subst (λ (j : ℕ). orient2d_of (p (rev k)) (p j) (p i) ≤ℤ pos 0) (rev-rev k) (convex.supports (rev k) i (rev_live (map_of s) k live) outer_too live_i).0)
      (orient2d-first_swapped (p k) (p (rev k)) (p i)) in
      let one = one_point (p h) (p (next_of s h)) (p (prev_of s h)) (p k) (p (rev k)) (left_at m mesh triangles at plane h live_h inner_h)
      (on h live_h) (on (next_of s h) tri.live_y) (on (prev_of s h) tri.live_z) in
      mesh.sound.two_ends k live (hull.distinct k (rev k) live (rev_live (map_of s) k live) one.0 one.1)
    where
      both : (x y : ℤ) → x ≤ℤ pos 0 → y ≤ℤ pos 0 → y ≡ neg_ℤ x → x ≡ pos 0
      both x y hx hy is = omega (arith, ordered, hx, hy, is)

  -- a point on the left of each line that has all vertices there, and the corner of a triangle beside it strictly, lies on the right of the hull
  pub right_of_hull : (q : Point) (a : ℕ) → IsLive s a → 0 < face_of s a
      → ((h : ℕ) → ((i : ℕ) → IsLive s i → pos 0 ≤ℤ orient2d_of (p (rev h)) (p h) (p i)) → pos 0 <ℤ orient2d_of (p (rev h)) (p h) (p (prev_of s (rev h)))
      → pos 0 <ℤ orient2d_of (p (rev h)) (p h) q)
      → (h : ℕ) → IsLive s h → face_of s h ≡ 0 → orient2d_of (p h) (p (rev h)) q <ℤ pos 0
  right_of_hull q a live_a inner_a left h live on = elim (eq-zero-or-pos (face_of s (rev h))) [
    | inl bare ↦ absurd (not_bare h a live on bare live_a inner_a)
    | inr facing ↦
        let back = rev_live (map_of s) h live in
        let ends : origin_of s (next_of s (rev h)) ≡ origin_of s h = mesh.sound.joined (rev h) back ∙ ap (origin_of s) (rev-rev h) in
        let off : pos 0 <ℤ orient2d_of (p (rev h)) (p h) (p (prev_of s (rev h))) =
        subst (λ (i : ℕ). pos 0 <ℤ orient2d_of (p (rev h)) (at i) (p (prev_of s (rev h)))) ends (left_at m mesh triangles at plane (rev h) back facing) in
        let none_right : (i : ℕ) → IsLive s i → pos 0 ≤ℤ orient2d_of (p (rev h)) (p h) (p i) =
        λ i live_i. let r = (convex.supports h i live on live_i).0 in let o = orient2d-first_swapped (p h) (p (rev h)) (p i) in omega (arith, ordered, r, o) in
        let is = left h none_right off in
        let o = orient2d-first_swapped (p h) (p (rev h)) q in
        omega (arith, ordered, is, o)
  ]

  -- so each vertex with an edge is a corner of a triangle
  pub corner_of : (k h : ℕ) → IsLive s k → IsLive s h → 0 < face_of s h → (i : ℕ) × IsLive s i × (0 < face_of s i) × (origin_of s i ≡ origin_of s k)
  corner_of k h live live_h inner_h = elim (eq-zero-or-pos (face_of s k)) [
    | inr inner ↦ (k, live, inner, refl)
    | inl outer ↦ elim (eq-zero-or-pos (face_of s (rev k))) [
      | inl outer_too ↦ absurd (not_bare k h live outer outer_too live_h inner_h)
      | inr inner ↦
          let back = rev_live (map_of s) k live in
          let tri = round m mesh triangles (rev k) back inner in
          (next_of s (rev k), tri.live_y, subst (λ (i : ℕ). 0 < i) (sym tri.face_y) inner, mesh.sound.joined (rev k) back ∙ ap (origin_of s) (rev-rev k))
    ]
  ]
