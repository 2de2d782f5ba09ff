use Rattle.std.proofs.Common.{refl}
use Rattle.dcel_text.proofs.Writing.{writes_and, writes_text}
use Rattle.dcel_commands.proofs.replies.write_opened.Goals as goal

pub returns : goal.returns
returns g c =
    writes_text (rw (c.deref.ensures.value, c.deref-2.ensures.value, c.deref-3.ensures.value) refl)
    (writes_and (writes_and (writes_and (writes_and (writes_and (writes_and c.write.ensures c.write_numbers.ensures) c.write-2.ensures) c.write_numbers-2.ensures) c.write-3.ensures) c.write_numbers-3.ensures) c.write-4.ensures)
