use Rattle.std.proofs.Common.{length}
use Rattle.dcel_maps.specs.Shapes.{face_of}
use Rattle.spade_dcel.proofs.Gathering.{Gathers}
use Rattle.spade_dcel.proofs.operations.strip.faces_beside.Given as goal

abbrev pub invariant-loop-edge : goal.invariant-loop-edge
invariant-loop-edge g l = Gathers l.dcel.shape (face_of l.dcel.shape) l.fn.list l.faces.items l.left

abbrev pub decreases-loop-edge : goal.decreases-loop-edge
decreases-loop-edge g l = length l.left
