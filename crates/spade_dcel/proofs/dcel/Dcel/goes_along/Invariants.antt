use Rattle.std.proofs.Common.{length}
use Rattle.dcel_maps.proofs.removal.StripSectors.{GoesAlong}
use Rattle.spade_dcel.proofs.dcel.Dcel.goes_along.Given as goal

abbrev pub invariant-loop-edge : goal.invariant-loop-edge
invariant-loop-edge g l = GoesAlong l.self.shape l.fn.first_out l.fn.list l.out_edge l.left

abbrev pub decreases-loop-edge : goal.decreases-loop-edge
decreases-loop-edge g l = length l.left
