use Rattle.dcel_text.proofs.Writing.{writes_and, writes_text}
use Rattle.dcel_commands.proofs.replies.write_counts.Goals as goal

pub returns : goal.returns
returns g c = writes_text (cc) (writes_and (writes_and (writes_and c.numbered.ensures c.numbered-2.ensures) c.numbered-3.ensures) c.write.ensures)
