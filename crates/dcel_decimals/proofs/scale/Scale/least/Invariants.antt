use Rattle.dcel_decimals.proofs.Scaled.{IsLeast}
use Rattle.dcel_decimals.proofs.scale.Scale.least.Given as goal

abbrev pub invariant-loop-decimal : goal.invariant-loop-decimal
invariant-loop-decimal l = IsLeast l.power l.decimal-index l.decimals
