use Rattle.std.proofs.Common.{◌≡◌, ◌≤◌, ◌+◌, ◌-◌, drop, length, sum}
use Rattle.dcel_c.proofs.faces.add_up.Given as goal

-- what is left is wanted of the counts to come
abbrev pub invariant-loop-at : goal.invariant-loop-at
invariant-loop-at l = record {
  up_to : l.at ≤ length l.counts;
  wanted : l.left + sum l.counts ≡ l.number + sum (drop l.at l.counts);
}

abbrev pub decreases-loop-at : goal.decreases-loop-at
decreases-loop-at l = length l.counts - l.at
