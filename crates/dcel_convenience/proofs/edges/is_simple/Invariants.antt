use Rattle.std.proofs.Common.{◌≡◌, ◌<◌, ◌*◌, ℕ, true}
use Rattle.dcel_convenience.specs.Simple.{IsOnly}
use Rattle.dcel_convenience.proofs.edges.is_simple.Given as goal
use Rattle.dcel_maps.specs.Shapes.{edge_is_live}

abbrev pub invariant-loop-number : goal.invariant-loop-number
invariant-loop-number g l = (u : ℕ) → u < l.number → edge_is_live l.fn.dcel.shape u ≡ true → IsOnly l.fn.dcel.shape (2 * u)
