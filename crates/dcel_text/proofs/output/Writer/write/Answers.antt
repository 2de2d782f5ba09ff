use Rattle.std.proofs.Common.{refl}
use Rattle.dcel_text.proofs.Writing.{writing_held, writes_and}
use Rattle.dcel_text.proofs.output.Writer.write.Goals as goal

pub returns-then-bytes-le-ROOM : goal.returns-then-bytes-le-ROOM
returns-then-bytes-le-ROOM g c = writes_and c.flush.ensures.writes (record { same = refl; writing = writing_held c.add-then-bytes-le-ROOM.ensures })

pub returns-else-bytes-le-ROOM : goal.returns-else-bytes-le-ROOM
returns-else-bytes-le-ROOM g c = writes_and c.flush.ensures.writes (record { same = refl; writing = rw c.flush.ensures.empty c.send.ensures })
