use Rattle.std.proofs.Common.{◌≡◌, ◌*◌, ◌^◌, ◌<◌}
use Rattle.dcel_floats.proofs.binary.Binary.normal.Given as goal

-- the same number
abbrev pub invariant-loop-power : goal.invariant-loop-power
invariant-loop-power l = record { same : l.mantissa * 2 ^ l.power ≡ l.initial.mantissa * 2 ^ l.initial.power; few : l.mantissa < 2 ^ 53; low : l.power < 2046 }

abbrev pub decreases-loop-power : goal.decreases-loop-power
decreases-loop-power l = l.power
