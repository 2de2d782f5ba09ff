use Rattle.std.proofs.Common.{ℕ, ◌-◌, ◌≤◌}
use Rattle.dcel_refinement.specs.Tangents.{Reaches}
use Rattle.dcel_refinement.proofs.tangents.least_rise.Given as goal

abbrev pub invariant-loop-low : goal.invariant-loop-low
invariant-loop-low l = record { range : l.high ≤ 65535; reaches : Reaches l.steps l.high 65535; least : (rise : ℕ) → Reaches l.steps rise 65535 → l.low ≤ rise; order : l.low ≤ l.high }

abbrev pub decreases-loop-low : goal.decreases-loop-low
decreases-loop-low l = l.high - l.low
