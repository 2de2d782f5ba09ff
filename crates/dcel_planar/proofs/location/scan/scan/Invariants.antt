use Rattle.std.proofs.Common.{ℕ, ◌<◌}
use Rattle.dcel_planar.specs.Missing.{IsMissed}
use Rattle.dcel_planar.proofs.location.scan.scan.Given as goal

abbrev pub invariant-loop-number : goal.invariant-loop-number
invariant-loop-number g l = (h : ℕ) → h < l.number → IsMissed l.dcel l.point h
