use Rattle.std.proofs.Common.{◌≡◌, ◌≤◌, ◌-◌, length, map, take}
use Rattle.dcel_triangulations.specs.constrained.Loading.{segment_given}
use Rattle.dcel_triangulations.proofs.constrained.loading.read_segments.Given as goal

-- the first segments were read
abbrev pub invariant-loop-at : goal.invariant-loop-at
invariant-loop-at l = record {
  up_to : l.at ≤ length l.given;
  read : l.list.items ≡ map segment_given (take l.at l.given);
}

abbrev pub decreases-loop-at : goal.decreases-loop-at
decreases-loop-at l = length l.given - l.at
