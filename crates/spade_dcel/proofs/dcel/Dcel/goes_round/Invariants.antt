use Rattle.std.proofs.Common.{length}
use Rattle.dcel_maps.specs.Shapes.{origin_of}
use Rattle.dcel_maps.proofs.removal.Sectors.{GoesRound}
use Rattle.spade_dcel.proofs.dcel.Dcel.goes_round.Given as goal

abbrev pub invariant-loop-edge : goal.invariant-loop-edge
invariant-loop-edge g l = GoesRound l.self.shape (origin_of l.self.shape l.fn.last) l.fn.first_out l.fn.others l.out_edge l.left

abbrev pub decreases-loop-edge : goal.decreases-loop-edge
decreases-loop-edge g l = length l.left
