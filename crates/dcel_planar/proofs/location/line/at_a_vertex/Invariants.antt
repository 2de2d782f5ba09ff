use Rattle.std.proofs.Common.{ℕ, ◌<◌}
use Rattle.dcel_planar.specs.Places.{HasPoint}
use Rattle.dcel_planar.proofs.location.line.at_a_vertex.Given as goal

abbrev pub invariant-loop-index : goal.invariant-loop-index
invariant-loop-index g l = (v : ℕ) → v < l.index → ¬ HasPoint l.dcel l.point v
