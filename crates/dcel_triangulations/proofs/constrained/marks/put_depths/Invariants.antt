use Rattle.std.proofs.Common.{◌≡◌, ◌≤◌, ◌-◌, ◌++◌, length, map, take, drop}
use Rattle.dcel_triangulations.specs.constrained.Lists.{depth_told}
use Rattle.dcel_triangulations.proofs.constrained.marks.put_depths.Given as goal

-- the first depths were put
abbrev pub invariant-loop-at : goal.invariant-loop-at
invariant-loop-at l = record {
  up_to : l.at ≤ length l.list;
  put : l.buffer ≡ take l.at (map depth_told l.list) ++ drop l.at l.fn.buffer;
}

abbrev pub decreases-loop-at : goal.decreases-loop-at
decreases-loop-at l = length l.list - l.at
