use Rattle.std.proofs.Common.{arith}
use Rattle.std.proofs.lemmas.List.{take_all}
use Rattle.dcel_output.proofs.outlining.odd_each.Goals as goal

pub returns : goal.returns
returns g c = rw (take_all c.loop-number.number-index c.args.numbers.now (omega (arith, c.loop-number-test.false))) at c.loop-number.invariant
