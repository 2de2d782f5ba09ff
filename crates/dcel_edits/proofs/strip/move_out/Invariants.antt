use Rattle.std.proofs.Common.{length}
use Rattle.dcel_edits.proofs.Along.{MovesOut}
use Rattle.dcel_edits.proofs.strip.move_out.Given as goal

abbrev pub invariant-loop-edge : goal.invariant-loop-edge
invariant-loop-edge g l = MovesOut l.fn.store l.fn.items l.store l.left

abbrev pub decreases-loop-edge : goal.decreases-loop-edge
decreases-loop-edge g l = length l.left
