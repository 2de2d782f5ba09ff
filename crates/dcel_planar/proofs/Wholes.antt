-- A Delaunay triangulation by the tests of its edges.
use Rattle.std.proofs.Common.{◌≡◌, ℕ, ◌<◌}
use Rattle.dcel_predicates.specs.declared.point.Point.{Point}
use Rattle.dcel_maps.specs.Conditions.{IsUnconnected}
use Rattle.dcel_maps.specs.Removals.{Closed}
use Rattle.dcel_maps.specs.Shapes.{IsMesh, Mesh, face_count}
use Rattle.dcel_maps.specs.Triangulations.{AllTriangles}
use Rattle.dcel_plane.specs.Plane.{IsLocallyDelaunay}
use Rattle.dcel_plane.specs.covering.Delaunay.{IsDelaunayTriangulation}
use Rattle.dcel_plane.specs.covering.Round.{GoesRoundOnce}
use Rattle.dcel_plane.proofs.covering.Rounded.{round_convex, round_hull}
use Rattle.dcel_plane.proofs.covering.Rounding.{goes_round}
use Rattle.dcel_plane.proofs.covering.Starts.{inner_half}

module _ {V DE UE F : Type 0} (m : Mesh V DE UE F) (mesh : IsMesh m) (at : ℕ → Point) where
  pub whole_from : m.shape.removal ≡ Closed → 1 < face_count m.shape → AllTriangles m.shape → ((v : ℕ) × (v < m.shape.vertices) × IsUnconnected m.shape v → ⊥)
      → IsLocallyDelaunay at m.shape → GoesRoundOnce at m.shape → IsDelaunayTriangulation at m.shape
  whole_from closed inner triangles none delaunay goes = record {
    closed = closed;
    inner = inner;
    triangles = triangles;
    connected = λ v below bare. none (v, below, bare);
    delaunay = delaunay;
    convex = round_convex m mesh triangles at delaunay.plane goes;
    hull = round_hull m mesh triangles at delaunay.plane goes;
  }

  pub whole_goes : IsDelaunayTriangulation at m.shape → GoesRoundOnce at m.shape
  whole_goes whole =
      let (h, live, inner) = inner_half m mesh whole.closed whole.inner in
      goes_round m mesh whole.triangles h live inner at whole.delaunay.plane whole.convex whole.hull
