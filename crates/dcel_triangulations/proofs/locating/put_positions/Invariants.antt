use Rattle.std.proofs.Common.{◌≡◌, ◌≤◌, ◌-◌, ◌++◌, map, take, drop}
use Rattle.dcel_triangulations.specs.Positions.{position_told}
use Rattle.dcel_triangulations.proofs.locating.put_positions.Given as goal

-- the first positions were put
abbrev pub invariant-loop-at : goal.invariant-loop-at
invariant-loop-at l = record {
  up_to : l.at ≤ l.fitting;
  put : l.buffer ≡ take l.at (map position_told l.list) ++ drop l.at l.fn.buffer;
}

abbrev pub decreases-loop-at : goal.decreases-loop-at
decreases-loop-at l = l.fitting - l.at
