use Rattle.std.proofs.Common.{◌+◌, ◌*◌, vec_len}
use Rattle.dcel_plane.specs.Plane.{point_at}
use Rattle.dcel_plane.specs.Volume.{volume_below}
use Rattle.dcel_planar.proofs.Circling.{IsCircling}
use Rattle.dcel_planar.proofs.star.PlanarMesh+unit+A.legalize_star.Given as goal

-- what is kept of the mesh and the list
abbrev pub invariant-loop-edge : goal.invariant-loop-edge
invariant-loop-edge g l = record { way : IsCircling l.fn.vertex l.fn.self.dcel l.fn.self.due.items l.self.dcel l.self.due.items }

-- a flip puts one more edge on the list, and makes the volume below the mesh less
abbrev pub decreases-loop-edge : goal.decreases-loop-edge
decreases-loop-edge g l = 2 * volume_below (point_at l.self.dcel) l.self.dcel.shape + vec_len l.self.due
