use Rattle.std.proofs.Common.{◌≡◌}
use Rattle.dcel_maps.specs.Numbers.{numbers_between}
use Rattle.spade_dcel.proofs.operations.fill.edges_between.Given as goal

abbrev pub invariant-loop-index : goal.invariant-loop-index
invariant-loop-index g l = l.edges.items ≡ numbers_between l.fn.begin l.index
