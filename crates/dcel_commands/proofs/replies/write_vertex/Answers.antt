use Rattle.std.proofs.Common.{refl}
use Rattle.dcel_text.proofs.Writing.{writes_and, writes_text}
use Rattle.dcel_commands.proofs.replies.write_vertex.Goals as goal

pub returns : goal.returns
returns g c = writes_text (rw c.index.ensures.value refl) (writes_and c.numbered.ensures c.write.ensures)
