use Rattle.std.proofs.Common.{◌-◌, ◌≤◌}
use Rattle.dcel_refinement.specs.Tangents.{eighth, steps_of}
use Rattle.dcel_refinement.proofs.tangents.least_steps.Given as goal

abbrev pub invariant-loop-low : goal.invariant-loop-low
invariant-loop-low l = record { above : l.low ≤ steps_of l.degrees; below : steps_of l.degrees ≤ l.high; bound : l.high ≤ eighth }

abbrev pub decreases-loop-low : goal.decreases-loop-low
decreases-loop-low l = l.high - l.low
