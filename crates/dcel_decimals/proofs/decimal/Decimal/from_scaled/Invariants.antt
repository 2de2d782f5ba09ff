use Rattle.std.proofs.Common.{◌≡◌, ◌*◌, ◌^◌, ◌≤◌}
use Rattle.dcel_decimals.proofs.decimal.Decimal.from_scaled.Given as goal

-- what is left is the same number
abbrev pub invariant-loop-places : goal.invariant-loop-places
invariant-loop-places l = (l.size * 10 ^ l.fn.scale.power ≡ l.initial.size * 10 ^ l.places) × (l.places ≤ l.fn.scale.power) × (l.size ≤ l.initial.size)

abbrev pub decreases-loop-places : goal.decreases-loop-places
decreases-loop-places l = l.places
