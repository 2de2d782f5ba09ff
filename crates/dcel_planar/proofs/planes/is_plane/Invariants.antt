use Rattle.std.proofs.Common.{ℕ, ◌<◌}
use Rattle.dcel_plane.specs.Plane.{point_at}
use Rattle.dcel_planar.specs.Turning.{GoesLeft}
use Rattle.dcel_planar.proofs.planes.is_plane.Given as goal

-- the faces so far go round counterclockwise
abbrev pub invariant-loop-number : goal.invariant-loop-number
invariant-loop-number g l = (f : ℕ) → 0 < f → f < l.number → GoesLeft (point_at l.dcel) l.dcel.shape f
