use Rattle.std.proofs.Common.{◌≢◌, ℕ, ◌^◌, ◌<◌}
use Rattle.dcel_decimals.proofs.scale.Scale.of.Given as goal

-- none of the powers so far
abbrev pub invariant-loop-power : goal.invariant-loop-power
invariant-loop-power l = (p : ℕ) → p < l.power → l.number ≢ 10 ^ p
