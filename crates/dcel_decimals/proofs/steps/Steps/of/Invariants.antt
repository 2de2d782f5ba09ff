use Rattle.std.proofs.Common.{◌≡◌, ◌*◌, ◌^◌, ◌≤◌}
use Rattle.dcel_decimals.proofs.steps.Steps.of.Given as goal

-- the same number
abbrev pub invariant-loop-left : goal.invariant-loop-left
invariant-loop-left l = record { few : l.left ≤ l.fn.places; same : l.size * 2 ^ l.fn.places ≡ l.initial.size * 2 ^ l.left }

abbrev pub decreases-loop-left : goal.decreases-loop-left
decreases-loop-left l = l.left
