use Rattle.std.proofs.Common.{ℕ, ◌<◌}
use Rattle.dcel_maps.specs.Conditions.{IsTriangle}
use Rattle.dcel_planar.proofs.triangulations.has_triangles.Given as goal

-- the inner faces so far are triangles
abbrev pub invariant-loop-number : goal.invariant-loop-number
invariant-loop-number g l = (f : ℕ) → 0 < f → f < l.number → IsTriangle l.dcel.shape f
