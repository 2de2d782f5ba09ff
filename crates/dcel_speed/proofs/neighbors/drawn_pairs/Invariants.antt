use Rattle.std.proofs.Common.{◌<◌}
use Rattle.std.specs.Prelude.{All}
use Rattle.dcel_speed.proofs.neighbors.drawn_pairs.Given as goal

abbrev pub invariant-loop-index : goal.invariant-loop-index
invariant-loop-index g l = All (λ pair. pair.from < l.dcel.shape.vertices) l.pairs.items
