use Rattle.std.proofs.Common.{◌≡◌, ◌≤◌, ◌-◌, drop, length, take}
use Rattle.dcel_c.specs.Batch.{AppliesAll}
use Rattle.dcel_c.specs.Calls.{kept_in}
use Rattle.dcel_c.proofs.batch.dcel_apply_all.Given as goal

-- the first edits are carried out, and answered in the first places of the buffer
abbrev pub invariant-loop-at : goal.invariant-loop-at
invariant-loop-at l = record {
  up_to : l.at ≤ length l.edits;
  room : length l.replies ≡ length l.fn.replies;
  behind : drop l.at l.replies ≡ drop l.at l.fn.replies;
  applied : AppliesAll (kept_in l.fn.mesh) (take l.at l.edits) (kept_in l.mesh) (take l.at l.replies);
}

abbrev pub decreases-loop-at : goal.decreases-loop-at
decreases-loop-at l = length l.edits - l.at
