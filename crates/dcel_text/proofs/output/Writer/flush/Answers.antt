use Rattle.std.proofs.Common.{refl}
use Rattle.dcel_text.proofs.Writing.{writing_text, writing_held_out}
use Rattle.dcel_text.proofs.output.Writer.flush.Goals as goal

pub returns-clause-writes : goal.returns-clause-writes
returns-clause-writes g c = record { same = refl; writing = rw c.clear.ensures (writing_held_out (writing_text c.as_slice.ensures c.send.ensures)) }
