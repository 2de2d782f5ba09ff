use Rattle.std.proofs.Common.{arith}
use Rattle.std.specs.Float.Numeral.{numeral_digits}
use Rattle.dcel_decimals.proofs.Moved.{long_beyond, long_none}
use Rattle.dcel_decimals.proofs.numeral.read_moved.Goals as goal

pub returns-in-None : goal.returns-in-None
returns-in-None c = long_beyond (numeral_digits c.args.numeral.now) c.args.up c.args.down c.in-None.ensures (omega arith)

pub returns-in-None-2 : goal.returns-in-None-2
returns-in-None-2 c = long_none (numeral_digits c.args.numeral.now) c.args.up c.args.down c.in-None-2.ensures
