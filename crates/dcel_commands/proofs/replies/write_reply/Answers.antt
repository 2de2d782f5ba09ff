use Rattle.std.proofs.Common.{refl}
use Rattle.dcel_text.proofs.Writing.{writes_and, writes_text}
use Rattle.dcel_commands.proofs.replies.write_reply.Goals as goal

pub returns-in-Halves : goal.returns-in-Halves
returns-in-Halves g c = writes_text (rw c.in-Halves.is refl) (writes_and (writes_and c.write-in-Halves.ensures c.write_numbers.ensures) c.write-in-Halves-2.ensures)
