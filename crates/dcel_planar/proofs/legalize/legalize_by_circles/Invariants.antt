use Rattle.std.proofs.Common.{◌+◌, ◌*◌, vec_len}
use Rattle.dcel_plane.specs.Plane.{point_at}
use Rattle.dcel_plane.specs.Volume.{volume_below}
use Rattle.dcel_planar.proofs.Turned.{IsUnderWay}
use Rattle.dcel_planar.proofs.legalize.legalize_by_circles.Given as goal

-- what is kept of the mesh and the list
abbrev pub invariant-loop-edge : goal.invariant-loop-edge
invariant-loop-edge g l = record { way : IsUnderWay l.fn.dcel l.fn.due.items l.dcel l.due.items }

-- a flip puts four edges on the list, and makes the volume below the mesh less
abbrev pub decreases-loop-edge : goal.decreases-loop-edge
decreases-loop-edge g l = 5 * volume_below (point_at l.dcel) l.dcel.shape + vec_len l.due
