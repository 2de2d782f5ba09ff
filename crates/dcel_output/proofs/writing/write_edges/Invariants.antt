use Rattle.std.proofs.Common.{take}
use Rattle.std.specs.Io.KnownBytes.{Appends}
use Rattle.dcel_output.specs.Lines.{edge_line, lines_of}
use Rattle.dcel_output.proofs.writing.write_edges.Given as goal

abbrev pub invariant-loop-ends : goal.invariant-loop-ends
invariant-loop-ends g l = Appends (g.W.Write.contents l.fn.writer) (g.W.Write.contents l.writer) (lines_of edge_line (take l.ends-index l.edges))
