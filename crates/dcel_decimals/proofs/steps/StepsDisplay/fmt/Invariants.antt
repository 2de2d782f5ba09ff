use Rattle.std.proofs.Common.{◌^◌, ◌<◌, ◌≤◌}
use Rattle.dcel_decimals.proofs.steps.StepsDisplay.fmt.Given as goal

abbrev pub invariant-loop-places : goal.invariant-loop-places
invariant-loop-places g l = record { few : l.places ≤ 106; behind : l.rest < 2 ^ l.places }

abbrev pub decreases-loop-places : goal.decreases-loop-places
decreases-loop-places g l = l.places
