use Rattle.std.proofs.Common.{arith}
use Rattle.dcel_commands.proofs.Spelling.{reads}
use Rattle.dcel_commands.proofs.reading.read.Goals as goal

pub returns : goal.returns
returns g c = reads c.args.line.now _ _ c.read_after.result (omega arith) c.first.ensures c.read_after.ensures
