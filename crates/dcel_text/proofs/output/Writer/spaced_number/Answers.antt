use Rattle.dcel_text.proofs.Writing.{writes_and}
use Rattle.dcel_text.proofs.output.Writer.spaced_number.Goals as goal

pub returns : goal.returns
returns g c = writes_and c.write.ensures c.number.ensures
