use Rattle.std.proofs.Common.{length}
use Rattle.dcel_edits.proofs.GivingUp.{Drops}
use Rattle.dcel_edits.proofs.fill.drop_anchors.Given as goal

abbrev pub invariant-loop-face : goal.invariant-loop-face
invariant-loop-face g l = Drops l.fn.store l.fn.faces l.store l.left

abbrev pub decreases-loop-face : goal.decreases-loop-face
decreases-loop-face g l = length l.left
