use Rattle.std.proofs.Common.{◌≡◌, map, take}
use Rattle.dcel_output.specs.Outlining.{is_odd}
use Rattle.dcel_output.proofs.outlining.odd_each.Given as goal

abbrev pub invariant-loop-number : goal.invariant-loop-number
invariant-loop-number g l = l.flags.items ≡ map is_odd (take l.number-index l.numbers)
