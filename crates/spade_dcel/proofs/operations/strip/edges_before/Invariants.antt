use Rattle.std.proofs.Common.{◌/◌, length}
use Rattle.dcel_maps.specs.Shapes.{prev_of}
use Rattle.spade_dcel.proofs.Gathering.{Gathers}
use Rattle.spade_dcel.proofs.operations.strip.edges_before.Given as goal

abbrev pub invariant-loop-edge : goal.invariant-loop-edge
invariant-loop-edge g l = Gathers l.dcel.shape (λ e. prev_of l.dcel.shape e / 2) l.fn.list l.edges.items l.left

abbrev pub decreases-loop-edge : goal.decreases-loop-edge
decreases-loop-edge g l = length l.left
