use Rattle.std.proofs.Common.{◌≡◌, ◌+◌, ◌*◌, ◌^◌, ◌<◌}
use Rattle.dcel_decimals.proofs.floor.doubled.Given as goal

-- doubled as often as is left, it is what is asked for
abbrev pub invariant-loop-left : goal.invariant-loop-left
invariant-loop-left l = record { rest : l.quotient.rest < l.divisor; value : (l.quotient.whole * l.divisor + l.quotient.rest) * 2 ^ l.left ≡ l.size * 2 ^ l.doublings }

abbrev pub decreases-loop-left : goal.decreases-loop-left
decreases-loop-left l = l.left
