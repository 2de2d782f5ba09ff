-- No vertex stands inside a triangle, or in two triangles at an edge between them but at their corners.
use Rattle.std.proofs.Common.{◌≡◌, ◌≢◌, inl, inr, ℕ, ◌<◌, sym, ap, ◌∙◌, subst, pos, ◌<ℤ◌, arith}
use Rattle.std.proofs.lemmas.Bool.{cases_eq}
use Rattle.dcel_fixed.specs.HalfEdges.{rev}
use Rattle.dcel_fixed.proofs.Halves.{rev-rev}
use Rattle.dcel_predicates.specs.Determinants.{orient2d_of}
use Rattle.dcel_predicates.specs.declared.point.Point.{Point}
use Rattle.dcel_predicates.proofs.Points.{orient2d-turned}
use Rattle.dcel_predicates.proofs.Signs.{ordered}
use Rattle.dcel_maps.specs.Shapes.{IsLive, IsMesh, Mesh, Shape, face_of, map_of, next_of, origin_of, prev_of}
use Rattle.dcel_maps.specs.Triangulations.{AllTriangles}
use Rattle.dcel_maps.proofs.maps.Soundness.{rev_live}
use Rattle.dcel_maps.proofs.maps.Triangles.{IsTriangleOf, by_triangle, off_triangle}
use Rattle.dcel_maps.proofs.shapes.Maps.{map-sound}
use Rattle.dcel_plane.specs.Plane.{LiesAcross, TrianglesTurnLeft, TurnsLeft}
use Rattle.dcel_plane.proofs.edits.Splits.{seen_after, seen_before}
use Rattle.dcel_plane.specs.covering.Covering.{Covers, IsConvex, IsHull}
use Rattle.dcel_plane.specs.covering.Places.{AreDisjoint}
use Rattle.dcel_plane.proofs.covering.Faces.{corner_of, disjoint_at}
use Rattle.dcel_plane.proofs.covering.Inside.{as_covered, as_place, closed_disjoint, on_end, on_start, place_of, same_place, split_new_apart}
use Rattle.dcel_plane.proofs.covering.Triangles.{is_triangle, left_at, round, same_face}

module _ {V DE UE F : Type 0} (m : Mesh V DE UE F) (mesh : IsMesh m) (triangles : AllTriangles m.shape) (at : ℕ → Point) (plane : TrianglesTurnLeft at m.shape)
    (convex : IsConvex at m.shape) (hull : IsHull at m.shape) (q : Point) where
  abbrev s : Shape
  s = m.shape

  abbrev p : ℕ → Point
  p h = at (origin_of s h)

  -- the half edge i doesn't start where q is
  abbrev pub Differs : ℕ → Type 0
  Differs i = (p i).x ≡ q.x → (p i).y ≡ q.y → ⊥

  same_start : (i j : ℕ) → origin_of s j ≡ origin_of s i → Differs j → Differs i
  same_start i j is differs ex ey = differs (ap (λ (k : ℕ). (at k).x) is ∙ ex) (ap (λ (k : ℕ). (at k).y) is ∙ ey)

  -- a line from there would not have q on its left
  not_start : (i : ℕ) (b : Point) → TurnsLeft (p i) b q → Differs i
  not_start i b left ex ey = let z = sym (same_place (p i) b (p i) q ex ey) ∙ on_end (p i) b in omega (arith, ordered, z, left)

  -- its triangle would have q on its border
  covers_start : (i : ℕ) → IsLive s i → 0 < face_of s i → (p i).x ≡ q.x → (p i).y ≡ q.y → Covers (p i) (p (next_of s i)) (p (prev_of s i)) q
  covers_start i live inner ex ey =
      let n = next_of s i in
      let b = prev_of s i in
      let left = left_at m mesh triangles at plane i live inner in
      let first : orient2d_of (p i) (p n) q ≡ pos 0 = sym (same_place (p i) (p n) (p i) q ex ey) ∙ on_end (p i) (p n) in
      let second : orient2d_of (p n) (p b) q ≡ orient2d_of (p i) (p n) (p b) = sym (same_place (p n) (p b) (p i) q ex ey) ∙ orient2d-turned (p i) (p n) (p b) in
      let third : orient2d_of (p b) (p i) q ≡ pos 0 = sym (same_place (p b) (p i) (p i) q ex ey) ∙ on_start (p b) (p i) in
      (omega (arith, ordered, first), omega (arith, ordered, second, left), omega (arith, ordered, third))

  -- where that is so of each corner of a triangle, it is so of each vertex
  by_triangles : (a : ℕ) → IsLive s a → 0 < face_of s a → ((i : ℕ) → IsLive s i → 0 < face_of s i → Differs i) → (k : ℕ) → IsLive s k → Differs k
  by_triangles a live_a inner_a differs k live_k =
      let (i, live_i, inner_i, is) = corner_of m mesh triangles at plane convex hull k a live_k live_a inner_a in same_start k i is (differs i live_i inner_i)

  -- q inside the triangle of a
  module _ (a : ℕ) (live_a : IsLive m.shape a) (inner_a : 0 < face_of m.shape a) where
    pub none_inside : TurnsLeft (p a) (p (next_of s a)) q → TurnsLeft (p (next_of s a)) (p (prev_of s a)) q → TurnsLeft (p (prev_of s a)) (p a) q → (k : ℕ) → IsLive s k → Differs k
    none_inside ab bc ca = by_triangles a live_a inner_a corner
      where
        corner : (i : ℕ) → IsLive s i → 0 < face_of s i → Differs i
        corner i live_i inner_i ex ey =
            let b = next_of s a in
            let c = prev_of s a in
            let covers = covers_start i live_i inner_i ex ey in
            elim (cases_eq (face_of s a) (face_of s i)) [
              | inl same ↦
                  let inside = same_face m mesh triangles (λ x y z. TurnsLeft (p x) (p y) q × TurnsLeft (p y) (p z) q × TurnsLeft (p z) (p x) q)
                  (λ x y z h. (h.1, h.2, h.0)) a i live_a inner_a live_i inner_i same (ab, bc, ca) in
                  not_start i (p (next_of s i)) inside.0 ex ey
              | inr differ ↦
                  closed_disjoint (p a) (p b) (p c) (p i) (p (next_of s i)) (p (prev_of s i)) (disjoint_at m mesh triangles at plane convex hull a i live_a inner_a live_i inner_i differ)
                  (left_at m mesh triangles at plane i live_i inner_i) (place_of q) (
                    subst (λ z. pos 0 <ℤ z) (sym (as_place (p a) (p b) q)) ab,
                    subst (λ z. pos 0 <ℤ z) (sym (as_place (p b) (p c) q)) bc,
                    subst (λ z. pos 0 <ℤ z) (sym (as_place (p c) (p a) q)) ca,
                  )
                  (as_covered (p i) (p (next_of s i)) (p (prev_of s i)) q covers)
            ]

  -- q within the triangles on both sides of e
  module _ (e : ℕ) (live : IsLive m.shape e) (inner : 0 < face_of m.shape e) (inner_facing : 0 < face_of m.shape (rev e)) where
    abbrev t : ℕ
    t = rev e

    live_t : IsLive s (rev e)
    live_t = rev_live (map_of s) e live

    near : IsTriangleOf (map_of s) (face_of s e) e (next_of s e) (prev_of s e)
    near = round m mesh triangles e live inner

    far : IsTriangleOf (map_of s) (face_of s (rev e)) (rev e) (next_of s (rev e)) (prev_of s (rev e))
    far = round m mesh triangles (rev e) live_t inner_facing

    from_end : origin_of s (next_of s e) ≡ origin_of s t
    from_end = mesh.sound.joined e live

    from_start : origin_of s (next_of s t) ≡ origin_of s e
    from_start = mesh.sound.joined t live_t ∙ ap (origin_of s) (rev-rev e)

    pub near_left : TurnsLeft (p e) (p (rev e)) (p (prev_of s e))
    near_left = subst (λ (i : ℕ). TurnsLeft (p e) (at i) (p (prev_of s e))) from_end (left_at m mesh triangles at plane e live inner)

    pub far_left : TurnsLeft (p (rev e)) (p e) (p (prev_of s (rev e)))
    far_left = subst (λ (i : ℕ). TurnsLeft (p t) (at i) (p (prev_of s t))) from_start (left_at m mesh triangles at plane t live_t inner_facing)

    -- q on the left of the other sides of both
    pub record IsWithin : Type 0 where
      pub bc : TurnsLeft (p (rev e)) (p (prev_of s e)) q
      pub ca : TurnsLeft (p (prev_of s e)) (p e) q
      pub ad : TurnsLeft (p e) (p (prev_of s (rev e))) q
      pub db : TurnsLeft (p (prev_of s (rev e))) (p (rev e)) q

    pub lies_within : LiesAcross at s e q → LiesAcross at s (rev e) q → IsWithin
    lies_within across across_t =
        let near_triangle = is_triangle m mesh triangles e live inner in
        let far_triangle = is_triangle m mesh triangles t live_t inner_facing in
        record {
          bc = subst (λ (i : ℕ). TurnsLeft (at i) (p (prev_of s e)) q) from_end (seen_after m mesh at q e live near_triangle across);
          ca = seen_before m mesh at q e live near_triangle across;
          ad = subst (λ (i : ℕ). TurnsLeft (at i) (p (prev_of s t)) q) from_start (seen_after m mesh at q t live_t far_triangle across_t);
          db = seen_before m mesh at q t live_t far_triangle across_t;
        }

    pub none_within : IsWithin → (k : ℕ) → IsLive s k → Differs k
    none_within within = by_triangles e live inner corner
      where
        open within use {bc, ca, ad, db}

        not_a : Differs e
        not_a = not_start e (p (prev_of s t)) ad

        not_b : Differs t
        not_b = not_start t (p (prev_of s e)) bc

        beside : (i : ℕ) → IsLive s i → 0 < face_of s i → face_of s e ≢ face_of s i → face_of s t ≢ face_of s i → Differs i
        beside i live_i inner_i off_near off_far ex ey =
            let first = subst (λ (j : ℕ). AreDisjoint (p e) (at j) (p (prev_of s e)) (p i) (p (next_of s i)) (p (prev_of s i))) from_end
            (disjoint_at m mesh triangles at plane convex hull e i live inner live_i inner_i off_near) in
            let second = subst (λ (j : ℕ). AreDisjoint (p t) (at j) (p (prev_of s t)) (p i) (p (next_of s i)) (p (prev_of s i))) from_start
            (disjoint_at m mesh triangles at plane convex hull t i live_t inner_facing live_i inner_i off_far) in
            split_new_apart (p e) (p t) (p (prev_of s e)) (p (prev_of s t)) (p i) (p (next_of s i)) (p (prev_of s i)) near_left first second q bc ca ad db
            (left_at m mesh triangles at plane i live_i inner_i) (covers_start i live_i inner_i ex ey)

        corner : (i : ℕ) → IsLive s i → 0 < face_of s i → Differs i
        corner i live_i inner_i = elim (cases_eq (face_of s i) (face_of s e)) [
          | inl on_near ↦
              by_triangle Differs e (next_of s e) (prev_of s e) i (not_a, same_start (next_of s e) t (sym from_end) not_b, not_start (prev_of s e) (p e) ca)
              (λ off. absurd (off_triangle (map_of s) (map-sound mesh.sound) (face_of s e) e (next_of s e) (prev_of s e) near i live_i off on_near))
          | inr off_near ↦ elim (cases_eq (face_of s i) (face_of s t)) [
            | inl on_far ↦
                by_triangle Differs t (next_of s t) (prev_of s t) i (not_b, same_start (next_of s t) e (sym from_start) not_a, not_start (prev_of s t) (p t) db)
                (λ off. absurd (off_triangle (map_of s) (map-sound mesh.sound) (face_of s t) t (next_of s t) (prev_of s t) far i live_i off on_far))
            | inr off_far ↦ beside i live_i inner_i (λ is. off_near (sym is)) (λ is. off_far (sym is))
          ]
        ]
