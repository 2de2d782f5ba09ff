use Rattle.std.proofs.Common.{take}
use Rattle.std.specs.Io.KnownBytes.{Appends}
use Rattle.dcel_output.specs.Lines.{triangle_line, lines_of}
use Rattle.dcel_output.proofs.writing.write_triangles.Given as goal

abbrev pub invariant-loop-triangle : goal.invariant-loop-triangle
invariant-loop-triangle g l = Appends (g.W.Write.contents l.fn.writer) (g.W.Write.contents l.writer) (lines_of triangle_line (take l.triangle-index l.triangles))
