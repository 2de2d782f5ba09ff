-- While the hull is closed from a line: the corner on the other side of the tip stays closed.
use Rattle.std.proofs.Common.{◌≡◌, ℕ, List, pos, ◌≤ℤ◌}
use Rattle.dcel_predicates.specs.Determinants.{orient2d_of}
use Rattle.dcel_predicates.specs.declared.point.Point.{Point}
use Rattle.dcel_maps.specs.Shapes.{IsLive, IsMesh, Mesh, Shape, end_of, face_of, next_of, origin_of, prev_of}
use Rattle.dcel_maps.specs.Triangulations.{AllTriangles}
use Rattle.dcel_maps.specs.edits.Outside.{face_closed}
use Rattle.dcel_plane.specs.Plane.{IsLeftOf, TrianglesTurnLeft}
use Rattle.dcel_plane.specs.hull.Closing.{IsClosing, IsThin}
use Rattle.dcel_plane.proofs.hull.CornersStay.{after_stays_by, before_stays_by}
use Rattle.dcel_plane.proofs.hull.Step.{closed_step}
use Rattle.dcel_plane.proofs.hull.Thin as after
use Rattle.dcel_plane.proofs.hull.ThinBefore as before

module _ {V DE UE F : Type 0} (m : Mesh V DE UE F) (mesh : IsMesh m) (triangles : AllTriangles m.shape) (at : ℕ → Point) (plane : TrianglesTurnLeft at m.shape) (t : ℕ)
    (closing : IsClosing at m.shape t) (thin : IsThin at m.shape t) (e : ℕ) (live : IsLive m.shape e) (on : face_of m.shape e ≡ 0)
    (turns : IsLeftOf at m.shape (at (end_of m.shape (next_of m.shape e))) e) (halves : List DE) (edges : List UE) (faces : List F)
    (result : IsMesh (face_closed m e halves edges faces)) where
  abbrev s : Shape
  s = m.shape

  abbrev q : Shape
  q = (face_closed m e halves edges faces).shape

  pub thin_after_stays : ((h : ℕ) → IsLive s h → face_of s h ≡ 0 → origin_of s h ≡ t → orient2d_of (at (end_of s h)) (at (end_of s (next_of s h))) (at t) ≤ℤ pos 0)
      → (h : ℕ) → IsLive q h → face_of q h ≡ 0 → origin_of q h ≡ t → orient2d_of (at (end_of q h)) (at (end_of q (next_of q h))) (at t) ≤ℤ pos 0
  thin_after_stays closed_after =
      after_stays_by at s q e t (closed_step m mesh at e live on halves edges faces result) closing turns
      (λ h k live_h on_h is live_k on_k from. after.none_turns m mesh triangles at plane t closing thin closed_after h live_h on_h is k live_k from)

  pub thin_before_stays : ((h : ℕ) → IsLive s h → face_of s h ≡ 0 → end_of s h ≡ t → orient2d_of (at (origin_of s (prev_of s h))) (at (origin_of s h)) (at t) ≤ℤ pos 0)
      → (h : ℕ) → IsLive q h → face_of q h ≡ 0 → end_of q h ≡ t → orient2d_of (at (origin_of q (prev_of q h))) (at (origin_of q h)) (at t) ≤ℤ pos 0
  thin_before_stays closed_before =
      before_stays_by at s q e t (closed_step m mesh at e live on halves edges faces result) closing turns
      (λ h k live_h on_h is live_k on_k to. before.none_turns m mesh triangles at plane t closing thin closed_before h live_h on_h is k live_k to)
