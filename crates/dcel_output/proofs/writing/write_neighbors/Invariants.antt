use Rattle.std.proofs.Common.{take}
use Rattle.std.specs.Io.KnownBytes.{Appends}
use Rattle.std.specs.List.{zip}
use Rattle.dcel_output.specs.Lines.{neighbor_line, lines_of}
use Rattle.dcel_output.proofs.writing.write_neighbors.Given as goal

abbrev pub invariant-loop-place : goal.invariant-loop-place
invariant-loop-place g l = Appends (g.W.Write.contents l.fn.writer) (g.W.Write.contents l.writer) (lines_of neighbor_line (take l.place (zip l.triangles l.neighbors)))
