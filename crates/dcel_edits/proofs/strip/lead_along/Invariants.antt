use Rattle.std.proofs.Common.{length}
use Rattle.dcel_edits.proofs.Along.{LeadsAlong}
use Rattle.dcel_edits.proofs.strip.lead_along.Given as goal

abbrev pub invariant-loop-edge : goal.invariant-loop-edge
invariant-loop-edge g l = LeadsAlong l.fn.store l.fn.before l.fn.items l.store l.end l.left

abbrev pub decreases-loop-edge : goal.decreases-loop-edge
decreases-loop-edge g l = length l.left
