use Rattle.std.proofs.Common.{arith}
use Rattle.std.proofs.lemmas.Int.{to_z-of_z}
use Rattle.dcel_text.proofs.Writing.{writes_and, writes_text}
use Rattle.dcel_commands.proofs.replies.write_datum.Goals as goal

pub returns : goal.returns
returns g c = writes_text (grind (arith, to_z-of_z)) (writes_and (writes_and c.write.ensures c.datum.ensures) c.write-2.ensures)
