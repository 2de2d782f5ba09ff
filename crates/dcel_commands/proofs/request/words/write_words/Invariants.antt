use Rattle.dcel_commands.specs.Facts.{faces_text}
use Rattle.dcel_commands.specs.request.Words.{faces_below}
use Rattle.dcel_text.specs.Output.{Writes}
use Rattle.dcel_commands.proofs.request.words.write_words.Given as goal

abbrev pub invariant-loop-index : goal.invariant-loop-index
invariant-loop-index g l = Writes g.K.LineSink.has_failed g.K.LineSink.contents l.fn.out l.out (faces_text (faces_below l.dcel.shape l.index))
