-- What a constrained triangulation tells of its vertices and triangles.
use Rattle.std.proofs.Common.{◌≡◌, ◌≢◌, ℕ, ◌<◌, List, [], sym, subst, arith, pos, ◌<ℤ◌}
use Rattle.dcel_predicates.specs.declared.point.Point.{Point}
use Rattle.dcel_predicates.specs.Determinants.{orient2d_of}
use Rattle.dcel_predicates.proofs.Signs.{ordered}
use Rattle.dcel_maps.specs.Shapes.{IsLive, IsMesh, Mesh, end_of, face_count, face_of, origin_of}
use Rattle.dcel_maps.specs.Words.{count_of}
use Rattle.dcel_plane.specs.Plane.{point_at}
use Rattle.dcel_plane.proofs.covering.Numbered.{covered_in, faces_apart as apart}
use Rattle.dcel_plane.proofs.covering.Starts.{inner_half, out_of}
use Rattle.dcel_plane.specs.segments.Segments.{AreEnds, TriangulatesItsHull}
use Rattle.dcel_plane.proofs.segments.Wholly.{plane_covers}
use Rattle.dcel_planar.specs.Growing.{HasHull, IsFlat}
use Rattle.dcel_delaunay.specs.Triangulated.{FacesAreApart, HullIsCovered}
use Rattle.dcel_planar.proofs.Counting.{joined_all}
use Rattle.dcel_delaunay.proofs.Outline.{hull_of_face}
use Rattle.dcel_regions.specs.declared.mark.Mark.{Mark}
use Rattle.dcel_constrained.specs.Constraints.{IsFreeWay}
use Rattle.dcel_planar.specs.Leaving.{IsOutlined}
use Rattle.dcel_constrained.specs.Soundness.{IsConstrained, IsConstrainedDelaunay}

module _ {DE F : Type 0} (m : Mesh Point DE Mark F) (mesh : IsMesh m) (due : List ℕ) (sound : IsConstrained m due) where
  -- v and w are different vertices
  pub ends_of : (v w : ℕ) → v ≢ w → v < m.shape.vertices → w < m.shape.vertices → AreEnds m.shape v w
  ends_of v w differ below_v below_w =
      let more : 1 < m.shape.vertices = omega (arith, differ, below_v, below_w) in
      let from = out_of m mesh sound.closed v below_v (joined_all m mesh sound.closed sound.joined v more) in
      let to = out_of m mesh sound.closed w below_w (joined_all m mesh sound.closed sound.joined w more) in
      record { i = from.0; live_i = from.1; from_i = from.2; j = to.0; live_j = to.1; from_j = to.2 }

  -- once nothing is left to be looked at
  pub delaunay_then : due ≡ [] → IsConstrainedDelaunay m
  delaunay_then none u inner free circled =
      let listed = subst (λ (l : List ℕ). 0 < count_of u l) none (sound.listed u inner circled free) in omega (arith, listed)

  -- and nothing crosses anything on it
  pub line_free : IsFlat m → (v w : ℕ) → v ≢ w → v < m.shape.vertices → w < m.shape.vertices → IsFreeWay m v w
  line_free flat v w differ below_v below_w h crosses marked =
      let ends = ends_of v w differ below_v below_w in
      let on = flat.straight.line h ends.i crosses.live ends.live_i in
      let near = subst (λ (x : ℕ). pos 0 <ℤ orient2d_of (point_at m (origin_of m.shape h)) (point_at m (end_of m.shape h)) (point_at m x)) (sym ends.from_i) crosses.near in
      omega (arith, ordered, on, near)

  module _ (has : HasHull m) where
    pub planar : TriangulatesItsHull (point_at m) m
    planar = record { mesh = mesh; triangles = sound.triangles; plane = sound.plane; convex = has.convex; hull = has.hull }

    pub inner_one : (h : ℕ) × IsLive m.shape h × (0 < face_of m.shape h)
    inner_one = inner_half m mesh sound.closed has.inner

  module _ (outline : IsOutlined m) where
    pub faces_apart : FacesAreApart m
    faces_apart f g a b c x y z corners others differ =
        let has = hull_of_face m mesh outline f a b c corners in
        apart m mesh (point_at m) sound.triangles sound.plane has.convex has.hull f g a b c x y z corners others differ

    pub hull_covered : 1 < face_count m.shape → HullIsCovered m
    hull_covered inner pl within =
        covered_in m mesh (point_at m) pl (plane_covers (point_at m) m mesh sound.triangles sound.plane) (inner_half m mesh sound.closed inner) within
