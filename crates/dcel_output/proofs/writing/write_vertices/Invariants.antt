use Rattle.std.proofs.Common.{take}
use Rattle.std.specs.Io.KnownBytes.{Appends}
use Rattle.dcel_output.specs.Lines.{vertex_line, lines_of}
use Rattle.dcel_output.proofs.writing.write_vertices.Given as goal

abbrev pub invariant-loop-number : goal.invariant-loop-number
invariant-loop-number g l = Appends (g.W.Write.contents l.fn.writer) (g.W.Write.contents l.writer) (lines_of vertex_line (take l.number-index l.numbers))
