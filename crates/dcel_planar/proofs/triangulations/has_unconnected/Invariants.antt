use Rattle.std.proofs.Common.{ℕ, ◌<◌}
use Rattle.dcel_maps.specs.Conditions.{IsUnconnected}
use Rattle.dcel_planar.proofs.triangulations.has_unconnected.Given as goal

-- each vertex so far has an edge
abbrev pub invariant-loop-number : goal.invariant-loop-number
invariant-loop-number g l = (v : ℕ) → v < l.number → ¬ IsUnconnected l.dcel.shape v
