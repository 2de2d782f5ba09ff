-- What a segment between two vertices crosses, by its parts: each half edge across it crosses one of the parts up to a vertex between its ends
-- and from there on; an edge crosses nothing; and what a walk has passed on its way to such a vertex is all that the part up to it crosses.
use Rattle.std.proofs.Common.{◌≡◌, ◌≢◌, ◌⊎◌, inl, inr, ℕ, ◌<◌, refl, sym, ap, ◌∙◌, subst, pos, ◌<ℤ◌, eq-zero-or-pos, arith}
use Rattle.dcel_fixed.specs.HalfEdges.{rev}
use Rattle.dcel_fixed.proofs.Halves.{rev-rev}
use Rattle.dcel_predicates.specs.declared.point.Point.{Point}
use Rattle.dcel_predicates.specs.Determinants.{orient2d_of}
use Rattle.dcel_predicates.proofs.Points.{orient2d-first_swapped}
use Rattle.dcel_predicates.proofs.Signs.{ordered}
use Rattle.dcel_maps.specs.Shapes.{IsLive, Mesh, Shape, end_of, face_of, map_of, next_of, origin_of, prev_of}
use Rattle.dcel_maps.proofs.maps.Soundness.{rev_live}
use Rattle.dcel_maps.proofs.maps.Triangles.{IsTriangleOf}
use Rattle.dcel_plane.specs.Plane.{TurnsLeft}
use Rattle.dcel_plane.specs.covering.Covering.{Covers, dot}
use Rattle.dcel_plane.specs.covering.Places.{AreDisjoint}
use Rattle.dcel_plane.proofs.covering.Along.{long}
use Rattle.dcel_plane.proofs.covering.Apart.{apart_at}
use Rattle.dcel_plane.proofs.covering.Faces.{disjoint_at, not_bare}
use Rattle.dcel_plane.proofs.covering.Inside.{on_end, on_start}
use Rattle.dcel_plane.proofs.covering.Triangles.{left_at, of_face, round}
use Rattle.dcel_plane.specs.segments.Segments.{AreEnds, Crosses, TriangulatesItsHull, corner_before, orient2d_by}
use Rattle.dcel_plane.proofs.segments.Gates.{inner_far, inner_near, left_near}
use Rattle.dcel_constrained.specs.Meeting.{LiesBetweenEnds}
use Rattle.dcel_constrained.proofs.Between.{crosses_parts}
use Rattle.dcel_constrained.proofs.Crossings.{edges_apart, on_edge_in}

module _ {V DE UE F : Type 0} (m : Mesh V DE UE F) (at : ℕ → Point) (planar : TriangulatesItsHull at m) where
  abbrev s : Shape
  s = m.shape

  -- two vertices are apart
  pub vertices_apart : (v w : ℕ) → v ≢ w → AreEnds s v w → pos 0 <ℤ dot (at w) (at w) (at v)
  vertices_apart v w differ ends =
      subst (λ (i : ℕ). pos 0 <ℤ dot (at w) (at w) (at i)) ends.from_i
      (subst (λ (i : ℕ). pos 0 <ℤ dot (at i) (at i) (at (origin_of s ends.i))) ends.from_j
      (long (at (origin_of s ends.j)) (at (origin_of s ends.i))
      (λ ex ey. differ (sym ends.from_i ∙ sym (planar.hull.distinct ends.j ends.i ends.live_j ends.live_i ex ey) ∙ ends.from_j))))

  -- no vertex lies in an inner triangle, or on its border, but its corners
  pub none_in : (h a b c : ℕ) → IsLive s h → 0 < face_of s h → origin_of s h ≡ a → origin_of s (next_of s h) ≡ b → origin_of s (prev_of s h) ≡ c
      → (k z : ℕ) → IsLive s k → origin_of s k ≡ z → z ≢ a → z ≢ b → z ≢ c → Covers (at a) (at b) (at c) (at z) → ⊥
  none_in h a b c live inner is_a is_b is_c k z live_k is_z not_a not_b not_c covers =
      apart_at m planar.mesh planar.triangles at planar.plane planar.convex planar.hull h live inner k live_k
      (λ is. not_a (sym is_z ∙ is ∙ is_a)) (λ is. not_b (sym is_z ∙ is ∙ is_b)) (λ is. not_c (sym is_z ∙ is ∙ is_c))
      (subst (λ (i : ℕ). Covers (at i) (at (origin_of s (next_of s h))) (at (origin_of s (prev_of s h))) (at (origin_of s k))) (sym is_a)
      (subst (λ (i : ℕ). Covers (at a) (at i) (at (origin_of s (prev_of s h))) (at (origin_of s k))) (sym is_b)
      (subst (λ (i : ℕ). Covers (at a) (at b) (at i) (at (origin_of s k))) (sym is_c)
      (subst (λ (i : ℕ). Covers (at a) (at b) (at c) (at i)) (sym is_z) covers))))

  -- an edge crosses nothing
  module _ (k h : ℕ) (live : IsLive m.shape k) (inner : 0 < face_of m.shape k) (crosses : Crosses at m.shape (origin_of m.shape k) (end_of m.shape k) h) (inner_h : 0 < face_of m.shape h) where
    abbrev v : ℕ
    v = origin_of m.shape k

    abbrev y : ℕ
    y = end_of m.shape k

    tri : IsTriangleOf (map_of s) (face_of s k) k (next_of s k) (prev_of s k)
    tri = round m planar.mesh planar.triangles k live inner

    next_from : origin_of s (next_of s k) ≡ y
    next_from = planar.mesh.sound.joined k live

    prev_to : end_of s (prev_of s k) ≡ v
    prev_to = sym (planar.mesh.sound.joined (prev_of s k) tri.live_z) ∙ ap (origin_of s) tri.next_z

    other_face : face_of s k ≢ face_of s h
    other_face same =
        of_face m planar.mesh (face_of s k) k (next_of s k) (prev_of s k) tri (λ i. Crosses at s v y i → ⊥)
        (λ c. (let z = on_end (at v) (at y) in let r = c.right in omega (arith, ordered, z, r)))
        (λ c. (let z = on_start (at v) (at y) in let r = subst (λ (i : ℕ). orient2d_by at v y i <ℤ pos 0) next_from c.right in omega (arith, ordered, z, r)))
        (λ c. (let z = on_end (at v) (at y) in let l = subst (λ (i : ℕ). pos 0 <ℤ orient2d_by at v y i) prev_to c.left in omega (arith, ordered, z, l)))
        h crosses.live (sym same) crosses

    inner_crosses_nothing : ⊥
    inner_crosses_nothing =
        let o = origin_of s h in
        let e = end_of s h in
        let to_e = planar.mesh.sound.joined h crosses.live in
        edges_apart (at v) (at y) (at (origin_of s (prev_of s k))) (at o) (at e) (at (origin_of s (prev_of s h))) crosses.right crosses.left crosses.near crosses.far
        (subst (λ (i : ℕ). TurnsLeft (at v) (at i) (at (origin_of s (prev_of s k)))) next_from (left_at m planar.mesh planar.triangles at planar.plane k live inner))
        (subst (λ (i : ℕ). TurnsLeft (at o) (at i) (at (origin_of s (prev_of s h)))) to_e (left_at m planar.mesh planar.triangles at planar.plane h crosses.live inner_h))
        (subst (λ (i : ℕ). AreDisjoint (at v) (at i) (at (origin_of s (prev_of s k))) (at o) (at e) (at (origin_of s (prev_of s h)))) next_from
        (subst (λ (i : ℕ). AreDisjoint (at v) (at (origin_of s (next_of s k))) (at (origin_of s (prev_of s k))) (at o) (at i) (at (origin_of s (prev_of s h)))) to_e
        (disjoint_at m planar.mesh planar.triangles at planar.plane planar.convex planar.hull k h live inner crosses.live inner_h other_face)))

  -- a half edge across a segment crosses it the other way as well
  crosses_back : (v w h : ℕ) → Crosses at s v w h → Crosses at s w v (rev h)
  crosses_back v w h c =
      let o = origin_of s h in
      let e = end_of s h in
      let back : end_of s (rev h) ≡ origin_of s h = ap (origin_of s) (rev-rev h) in
      record {
        live = rev_live (map_of s) h c.live;
        right = (let a = orient2d-first_swapped (at v) (at w) (at e) in let l = c.left in omega (arith, ordered, a, l));
        left =
            subst (λ (i : ℕ). pos 0 <ℤ orient2d_by at w v i) (sym back)
            (let a = orient2d-first_swapped (at v) (at w) (at o) in let r = c.right in omega (arith, ordered, a, r));
        near =
            subst (λ (i : ℕ). TurnsLeft (at e) (at i) (at w)) (sym back)
            (let a = orient2d-first_swapped (at o) (at e) (at w) in let f = c.far in omega (arith, ordered, a, f));
        far =
            subst (λ (i : ℕ). orient2d_of (at e) (at i) (at v) <ℤ pos 0) (sym back)
            (let a = orient2d-first_swapped (at o) (at e) (at v) in let n = c.near in omega (arith, ordered, a, n));
      }

  pub edges_cross_nothing : (v y k : ℕ) → IsLive s k → origin_of s k ≡ v → end_of s k ≡ y → (h : ℕ) → Crosses at s v y h → ⊥
  edges_cross_nothing v y k live from to h crosses =
      let ends : AreEnds s v y = record {
        i = k;
        live_i = live;
        from_i = from;
        j = rev k;
        live_j = rev_live (map_of s) k live;
        from_j = to;
      } in
      let here = subst (λ (i : ℕ). Crosses at s i (end_of s k) h) (sym from) (subst (λ (i : ℕ). Crosses at s v i h) (sym to) crosses) in
      let back : end_of s (rev k) ≡ origin_of s k = ap (origin_of s) (rev-rev k) in
      let inner_h = inner_near m planar.mesh planar.triangles at planar.plane planar.convex v y ends h crosses in
      let inner_back = inner_far m planar.mesh planar.triangles at planar.plane planar.convex v y ends h crosses in
      elim (eq-zero-or-pos (face_of s k)) [
        | inr inner ↦ inner_crosses_nothing k h live inner here inner_h
        | inl outer ↦ elim (eq-zero-or-pos (face_of s (rev k))) [
          | inl outer_too ↦ not_bare m planar.mesh planar.triangles at planar.plane planar.convex planar.hull k h live outer outer_too crosses.live inner_h
          | inr inner ↦
              inner_crosses_nothing (rev k) (rev h) (rev_live (map_of s) k live) inner
              (subst (λ (i : ℕ). Crosses at s (end_of s k) i (rev h)) (sym back) (crosses_back (origin_of s k) (end_of s k) h here)) inner_back
        ]
      ]

  -- a vertex y between v and w
  module _ (v w y k : ℕ) (ends : AreEnds m.shape v w) (lies : LiesBetweenEnds at v w y) (live_k : IsLive m.shape k) (is_y : origin_of m.shape k ≡ y) where
    not_through : (h : ℕ) → Crosses at s v w h → orient2d_of (at (origin_of s h)) (at (end_of s h)) (at y) ≢ pos 0
    not_through h c on =
        let inner = inner_near m planar.mesh planar.triangles at planar.plane planar.convex v w ends h c in
        let turn = left_near m planar.mesh planar.triangles at planar.plane planar.convex v w ends h c in
        let both = on_edge_in (at v) (at w) (at (origin_of s h)) (at (end_of s h)) (at (corner_before s h)) (at y) c.right c.left lies.on on turn in
        none_in h (origin_of s h) (end_of s h) (corner_before s h) c.live inner refl (planar.mesh.sound.joined h c.live) refl k y live_k is_y
        (λ is. (let r = subst (λ (i : ℕ). orient2d_by at v w i <ℤ pos 0) (sym is) c.right in let z = lies.on in omega (arith, ordered, r, z)))
        (λ is. (let l = subst (λ (i : ℕ). pos 0 <ℤ orient2d_by at v w i) (sym is) c.left in let z = lies.on in omega (arith, ordered, l, z)))
        (λ is. (let t = subst (λ (i : ℕ). TurnsLeft (at (origin_of s h)) (at (end_of s h)) (at i)) (sym is) turn in omega (arith, ordered, t, on)))
        (omega (arith, ordered, on), both.0, both.1)

    pub crosses_one : (h : ℕ) → Crosses at s v w h → Crosses at s v y h ⊎ Crosses at s y w h
    crosses_one h c = crosses_parts at v w y lies s h c (not_through h c)
