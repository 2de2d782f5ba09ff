-- Half edges that cross a segment between two vertices, and their flips.
use Rattle.std.proofs.Common.{◌≡◌, inl, inr, ℕ, ◌/◌, ◌<◌, sym, ap, ◌∙◌, subst, ℤ, pos, ◌≤ℤ◌, refl, eq-zero-or-pos, arith}
use Rattle.dcel_fixed.specs.HalfEdges.{rev}
use Rattle.dcel_fixed.proofs.Halves.{rev-rev}
use Rattle.dcel_predicates.specs.declared.point.Point.{Point}
use Rattle.dcel_predicates.specs.Determinants.{orient2d_of}
use Rattle.dcel_predicates.proofs.Points.{orient2d-first_swapped}
use Rattle.dcel_predicates.proofs.Signs.{ordered}
use Rattle.dcel_maps.specs.Shapes.{IsLive, IsMesh, Mesh, Shape, end_of, face_of, map_of, next_of, origin_of, prev_of}
use Rattle.dcel_maps.specs.Triangulations.{AllTriangles}
use Rattle.dcel_maps.proofs.maps.Soundness.{rev_live}
use Rattle.dcel_maps.proofs.maps.Triangles.{IsTriangleOf}
use Rattle.dcel_plane.specs.Plane.{TrianglesTurnLeft, TurnsLeft}
use Rattle.dcel_plane.proofs.edits.Corners.{corners_are, left_of_triangle}
use Rattle.dcel_plane.specs.covering.Covering.{IsConvex}
use Rattle.dcel_plane.specs.segments.Segments.{AreEnds, Crosses, IsPeak, corner_before, corner_beyond, orient2d_by}
use Rattle.dcel_plane.specs.removal.Wheels.{CanFlipInPlane}
use Rattle.dcel_plane.proofs.segments.Levers.{turns_at_left, turns_at_right}
use Rattle.dcel_plane.proofs.removal.Turnable.{turned_can}
use Rattle.dcel_plane.proofs.covering.Triangles.{is_triangle, round}

module _ {V DE UE F : Type 0} (m : Mesh V DE UE F) (mesh : IsMesh m) (triangles : AllTriangles m.shape) (at : ℕ → Point) (plane : TrianglesTurnLeft at m.shape)
    (convex : IsConvex at m.shape) (v w : ℕ) (ends : AreEnds m.shape v w) where
  abbrev s : Shape
  s = m.shape

  abbrev off : ℕ → ℤ
  off k = orient2d_by at v w k

  -- where a half edge's triangle goes on
  pub on_next : (h : ℕ) → IsLive s h → origin_of s (next_of s h) ≡ end_of s h
  on_next h live = mesh.sound.joined h live

  -- a half edge across the segment lies between two inner triangles
  module _ (h : ℕ) (crosses : Crosses at m.shape v w h) where
    pub inner_near : 0 < face_of s h
    inner_near = elim (eq-zero-or-pos (face_of s h)) [
      | inr inner ↦ inner
      | inl outer ↦ absurd
          (let r = subst (λ (k : ℕ). orient2d_of (at (origin_of s h)) (at (end_of s h)) (at k) ≤ℤ pos 0) ends.from_i (convex.supports h ends.i crosses.live outer ends.live_i).0 in
          let c = crosses.near in
          omega (arith, ordered, r, c))
    ]

    pub live_rev : IsLive s (rev h)
    live_rev = rev_live (map_of s) h crosses.live

    ends_rev : end_of s (rev h) ≡ origin_of s h
    ends_rev = ap (origin_of s) (rev-rev h)

    pub inner_far : 0 < face_of s (rev h)
    inner_far = elim (eq-zero-or-pos (face_of s (rev h))) [
      | inr inner ↦ inner
      | inl outer ↦ absurd
          (let r = subst (λ (k : ℕ). orient2d_of (at (end_of s h)) (at (origin_of s h)) (at k) ≤ℤ pos 0) ends.from_j
          (subst (λ (i : ℕ). orient2d_of (at (end_of s h)) (at i) (at (origin_of s ends.j)) ≤ℤ pos 0) ends_rev (convex.supports (rev h) ends.j live_rev outer ends.live_j).0) in
          let e = orient2d-first_swapped (at (origin_of s h)) (at (end_of s h)) (at w) in
          let c = crosses.far in
          omega (arith, ordered, r, e, c))
    ]

    pub near : IsTriangleOf (map_of s) (face_of s h) h (next_of s h) (prev_of s h)
    near = round m mesh triangles h crosses.live inner_near

    pub far : IsTriangleOf (map_of s) (face_of s (rev h)) (rev h) (next_of s (rev h)) (prev_of s (rev h))
    far = round m mesh triangles (rev h) live_rev inner_far

    pub left_near : TurnsLeft (at (origin_of s h)) (at (end_of s h)) (at (corner_before s h))
    left_near = corners_are at refl (on_next h crosses.live) refl (left_of_triangle at s mesh.sound plane (face_of s h) h (next_of s h) (prev_of s h) inner_near near)

    pub left_far : TurnsLeft (at (end_of s h)) (at (origin_of s h)) (at (corner_beyond s h))
    left_far =
        corners_are at refl (on_next (rev h) live_rev ∙ ends_rev) refl
        (left_of_triangle at s mesh.sound plane (face_of s (rev h)) (rev h) (next_of s (rev h)) (prev_of s (rev h)) inner_far far)

    -- if its corners lie between its ends, across the segment, it can be flipped
    module _ (peak : IsPeak at m.shape v w h) where
      pub at_end : TurnsLeft (at (corner_before s h)) (at (corner_beyond s h)) (at (end_of s h))
      at_end =
          turns_at_left (at v) (at w) (at (corner_before s h)) (at (origin_of s h)) (at (end_of s h)) (at (corner_beyond s h)) left_near left_far
          peak.above peak.below peak.above_too peak.below_too

      pub at_start : TurnsLeft (at (corner_beyond s h)) (at (corner_before s h)) (at (origin_of s h))
      at_start =
          turns_at_right (at v) (at w) (at (corner_before s h)) (at (origin_of s h)) (at (end_of s h)) (at (corner_beyond s h)) left_near left_far
          peak.above peak.below peak.above_too peak.below_too

      pub peak_can_turn : CanFlipInPlane at s (h / 2)
      peak_can_turn = turned_can at s h crosses.live (record {
        face = inner_near;
        facing = inner_far;
        triangle = is_triangle m mesh triangles h crosses.live inner_near;
        triangle_facing = is_triangle m mesh triangles (rev h) live_rev inner_far;
        corners = λ same.
            (let a = left_near in
            let b = subst (λ (k : ℕ). TurnsLeft (at (end_of s h)) (at (origin_of s h)) (at k)) (sym same) left_far in
            let e = orient2d-first_swapped (at (origin_of s h)) (at (end_of s h)) (at (corner_before s h)) in
            omega (arith, ordered, a, b, e));
        first = at_end;
        second = at_start;
      })
