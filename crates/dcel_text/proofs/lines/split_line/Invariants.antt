use Rattle.std.proofs.Common.{take}
use Rattle.dcel_text.specs.Lines.{HasNoFeed}
use Rattle.dcel_text.proofs.lines.split_line.Given as goal

abbrev pub invariant-loop-i : goal.invariant-loop-i
invariant-loop-i l = HasNoFeed (take l.i l.bytes)
