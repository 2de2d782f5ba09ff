use Rattle.std.proofs.Common.{length}
use Rattle.dcel_delaunay.proofs.Renaming.{Renames}
use Rattle.dcel_delaunay.proofs.remove.cleanup.number_after.Given as goal

abbrev pub invariant-loop-left : goal.invariant-loop-left
invariant-loop-left l = Renames l.last l.left l.number l.fn.count l.fn.taken_out l.fn.edge

abbrev pub decreases-loop-left : goal.decreases-loop-left
decreases-loop-left l = length l.left
