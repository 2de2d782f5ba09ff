use Rattle.std.proofs.Common.{◌≡◌, ◌<◌, ℕ, List}
use Rattle.dcel_plane.specs.Plane.{point_at}
use Rattle.dcel_constrained.specs.Constraints.{LiesOnSegment}
use Rattle.dcel_output.specs.Outlining.{TurnsEach}
use Rattle.dcel_output.proofs.Parted.{IsPath, ahead}
use Rattle.dcel_output.proofs.outlining.turn_way.Given as goal

abbrev pub invariant-loop-to : goal.invariant-loop-to
invariant-loop-to g l = record {
  shape : l.parted.shape ≡ l.mesh.shape;
  below : l.at < l.mesh.shape.vertices;
  on : LiesOnSegment (point_at l.mesh) l.fn.from l.to l.at;
  halves : List ℕ;
  path : IsPath l.mesh l.to l.fn.from l.at halves;
  turns : TurnsEach l.fn.parted l.parted halves;
}

-- each vertex on the way is nearer to its end
abbrev pub decreases-loop-to : goal.decreases-loop-to
decreases-loop-to g l = ahead l.mesh l.to l.at
