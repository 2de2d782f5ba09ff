use Rattle.dcel_text.proofs.Writing.{writes_and}
use Rattle.dcel_commands.proofs.request.out.write_turn_line.Goals as goal

pub returns : goal.returns
returns g c = writes_and (writes_and c.write.ensures c.write_half_edges.ensures) c.write-2.ensures
