use Rattle.std.proofs.Common.{take}
use Rattle.dcel_text.specs.Output.{Writes}
use Rattle.dcel_text.specs.Texts.{listed}
use Rattle.dcel_commands.proofs.replies.write_numbers.Given as goal

abbrev pub invariant-loop-element : goal.invariant-loop-element
invariant-loop-element g l = Writes g.K.LineSink.has_failed g.K.LineSink.contents l.fn.out l.out (listed (take l.element-index l.elements))
