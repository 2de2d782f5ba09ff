use Rattle.std.proofs.Common.{◌≡◌, ◌++◌, drop, map, take}
use Rattle.dcel_output.specs.Keeping.{placed_across}
use Rattle.dcel_output.proofs.keeping.place_each.Given as goal

abbrev pub invariant-loop-across : goal.invariant-loop-across
invariant-loop-across l = l.list ≡ map (placed_across l.places) (take l.across-index l.fn.list) ++ drop l.across-index l.fn.list
