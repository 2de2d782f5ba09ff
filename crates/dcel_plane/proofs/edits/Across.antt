-- A vertex on an edge between two triangles, seen from both sides.
use Rattle.std.proofs.Common.{◌≡◌, ℕ, ◌<◌, refl, sym, ap, ◌∙◌, subst, pos}
use Rattle.dcel_fixed.specs.HalfEdges.{rev}
use Rattle.dcel_fixed.proofs.Halves.{rev-rev}
use Rattle.dcel_predicates.specs.declared.point.Point.{Point}
use Rattle.dcel_predicates.specs.Determinants.{orient2d_of}
use Rattle.dcel_predicates.proofs.Between.{across_end, across_start}
use Rattle.dcel_maps.specs.Around.{around}
use Rattle.dcel_maps.specs.Conditions.{IsTriangle}
use Rattle.dcel_maps.specs.Shapes.{IsLive, IsMesh, Mesh, Shape, end_of, face_of, map_of, origin_of}
use Rattle.dcel_maps.proofs.maps.Soundness.{rev_live}
use Rattle.dcel_maps.proofs.maps.Triangles.{IsTriangleOf, by_triangle, off_triangle}
use Rattle.dcel_maps.proofs.shapes.Maps.{map-sound}
use Rattle.dcel_plane.specs.Plane.{IsLeftOf, LiesAcross, TrianglesTurnLeft, TurnsLeft}
use Rattle.dcel_plane.proofs.edits.Corners.{corners_are, left_of_triangle}
use Rattle.dcel_plane.proofs.edits.Splits.{seen_after, seen_before, side_triangle}

module _ {V DE UE F : Type 0} (m : Mesh V DE UE F) (mesh : IsMesh m) (at : ℕ → Point) (p : Point) (e : ℕ) (live : IsLive m.shape e)
    (triangle : IsTriangle m.shape (face_of m.shape e)) (facing : IsTriangle m.shape (face_of m.shape (rev e)))
    (inner : 0 < face_of m.shape e) (inner_facing : 0 < face_of m.shape (rev e)) (plane : TrianglesTurnLeft at m.shape)
    (on : orient2d_of (at (origin_of m.shape e)) (at (end_of m.shape e)) p ≡ pos 0) (across : LiesAcross at m.shape e p) where
  open (around m.shape e) use {t, f, g, before as ep, after as en, t_before as tp, t_after as tn, start, end}

  abbrev s : Shape
  s = m.shape

  live_t : IsLive s t
  live_t = rev_live (map_of s) e live

  near : IsTriangleOf (map_of s) f e en ep
  near = side_triangle m mesh at p e live triangle

  far : IsTriangleOf (map_of s) g t tn tp
  far = side_triangle m mesh at p t live_t facing

  from_end : origin_of s en ≡ end
  from_end = mesh.sound.joined e live

  from_start : origin_of s tn ≡ start
  from_start = mesh.sound.joined t live_t ∙ ap (origin_of s) (rev-rev e)

  left : TurnsLeft (at start) (at end) (at (origin_of s ep))
  left = corners_are at refl from_end refl (left_of_triangle at s mesh.sound plane f e en ep inner near)

  right : TurnsLeft (at end) (at start) (at (origin_of s tp))
  right = corners_are at refl from_start refl (left_of_triangle at s mesh.sound plane g t tn tp inner_facing far)

  from_b : TurnsLeft (at end) (at (origin_of s ep)) p
  from_b = subst (λ (k : ℕ). TurnsLeft (at k) (at (origin_of s ep)) p) from_end (seen_after m mesh at p e live triangle across)

  from_a : TurnsLeft (at (origin_of s ep)) (at start) p
  from_a = seen_before m mesh at p e live triangle across

  by_tn : IsLeftOf at s p tn
  by_tn =
      let ends : end_of s tn ≡ origin_of s tp = sym (mesh.sound.joined tn far.live_y) ∙ ap (origin_of s) far.next_y in
      subst (λ (k : ℕ). TurnsLeft (at (origin_of s tn)) (at k) p) (sym ends)
      (subst (λ (k : ℕ). TurnsLeft (at k) (at (origin_of s tp)) p) (sym from_start)
      (across_start (at start) (at end) (at (origin_of s ep)) (at (origin_of s tp)) p left right on from_b from_a))

  by_tp : IsLeftOf at s p tp
  by_tp =
      let ends : end_of s tp ≡ end = sym (mesh.sound.joined tp far.live_z) ∙ ap (origin_of s) far.next_z in
      subst (λ (k : ℕ). TurnsLeft (at (origin_of s tp)) (at k) p) (sym ends)
      (across_end (at start) (at end) (at (origin_of s ep)) (at (origin_of s tp)) p left right on from_b from_a)

  pub across_both : LiesAcross at s t p
  across_both h lives on_g not_t =
      by_triangle (λ x. h ≡ x → IsLeftOf at s p h) t tn tp h
      (λ is. absurd (not_t is), λ is. subst (λ (k : ℕ). IsLeftOf at s p k) (sym is) by_tn, λ is. subst (λ (k : ℕ). IsLeftOf at s p k) (sym is) by_tp)
      (λ off. absurd (off_triangle (map_of s) (map-sound mesh.sound) g t tn tp far h lives off on_g)) refl
