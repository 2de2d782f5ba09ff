use Rattle.std.proofs.Common.{◌≡◌, ◌+◌, ◌++◌}
use Rattle.dcel_maps.specs.Numbers.{numbers_between}
use Rattle.dcel_exchange.proofs.sides.add_round.Given as goal

abbrev pub invariant-loop-number : goal.invariant-loop-number
invariant-loop-number g l = l.list.items ≡ l.initial.list.items ++ numbers_between (l.first + 1) l.number
