-- Triangles in the plane cover the hull, since flips lead from them to a Delaunay mesh, whose triangles do.
use Rattle.std.proofs.Common.{ℕ, zero, suc, ◌<◌, arith}
use Rattle.dcel_predicates.specs.declared.point.Point.{Point}
use Rattle.dcel_maps.specs.edits.Flip.{edge_flipped}
use Rattle.dcel_maps.specs.Shapes.{IsMesh, Mesh}
use Rattle.dcel_maps.specs.Triangulations.{AllTriangles}
use Rattle.dcel_maps.proofs.Triangulations.{flipped}
use Rattle.dcel_maps.proofs.edits.Flips.{flipped_mesh}
use Rattle.dcel_plane.specs.Plane.{IsCircled, IsInner, IsLocallyDelaunay, TrianglesTurnLeft}
use Rattle.dcel_plane.specs.Volume.{volume_below}
use Rattle.dcel_plane.proofs.edits.Flipped.{circled_can_flip, flip_plane, new_corners}
use Rattle.dcel_plane.proofs.edits.Volumes.{volume_falls}
use Rattle.dcel_plane.specs.covering.Covering.{CoversHull}
use Rattle.dcel_plane.proofs.covering.Reaching.{covers_hull}
use Rattle.dcel_plane.specs.removal.Wheels.{CanFlipInPlane}
use Rattle.dcel_plane.proofs.segments.Covered.{turn_covered}

-- an edge that has a corner inside the circle of the other side can be flipped so that both triangles go round counterclockwise again
pub circled_can_turn : {V DE UE F : Type 0} (at : ℕ → Point) (m : Mesh V DE UE F) (u : ℕ) → IsMesh m → TrianglesTurnLeft at m.shape → IsInner m.shape u
    → IsCircled at m.shape u → CanFlipInPlane at m.shape u
circled_can_turn at m u mesh plane inner circled =
    let can = circled_can_flip m mesh u at inner circled in
    let new = new_corners m mesh u can at plane inner.inner inner.inner_facing circled in
    record { can = can; inner = inner.inner; inner_facing = inner.inner_facing; first = new.first; second = new.second }

-- by the volume below the mesh: if an edge is circled, it is less once that is flipped
covers_below : {V DE UE F : Type 0} (at : ℕ → Point) (bound : ℕ) (m : Mesh V DE UE F) → volume_below at m.shape < bound → IsMesh m → AllTriangles m.shape
    → TrianglesTurnLeft at m.shape → CoversHull at m.shape
covers_below at zero m less mesh triangles plane = absurd (omega (arith, less))
covers_below at (suc bound) m less mesh triangles plane = record {
  covered = λ p h live inner right none.
      let delaunay : IsLocallyDelaunay at m.shape = record {
        plane = plane;
        empty = λ u between circled.
            let turn = circled_can_turn at m u mesh plane between circled in
            let falls = volume_falls m mesh u turn.can at turn.inner turn.inner_facing circled plane in
            let after = covers_below at bound (edge_flipped m u) (omega (arith, falls, less)) (flipped_mesh m u mesh turn.can) (flipped m triangles u)
            (flip_plane m mesh u turn.can at turn.inner turn.inner_facing circled plane) in
            (turn_covered m mesh triangles at plane u turn after).covered p h live inner right none;
      } in
      (covers_hull m mesh triangles at delaunay).covered p h live inner right none;
}

pub plane_covers : {V DE UE F : Type 0} (at : ℕ → Point) (m : Mesh V DE UE F) → IsMesh m → AllTriangles m.shape → TrianglesTurnLeft at m.shape → CoversHull at m.shape
plane_covers at m mesh triangles plane =
    covers_below at (suc (volume_below at m.shape)) m (omega arith) mesh triangles plane
