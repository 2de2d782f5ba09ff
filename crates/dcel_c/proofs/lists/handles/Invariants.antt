use Rattle.std.proofs.Common.{◌≡◌, ◌≤◌, ◌-◌, length, take}
use Rattle.dcel_c.proofs.lists.handles.Given as goal

-- the first numbers are listed
abbrev pub invariant-loop-at : goal.invariant-loop-at
invariant-loop-at g l = record {
  up_to : l.at ≤ length l.numbers;
  listed : l.list.items ≡ take l.at l.numbers;
}

abbrev pub decreases-loop-at : goal.decreases-loop-at
decreases-loop-at g l = length l.numbers - l.at
