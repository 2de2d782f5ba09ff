use Rattle.dcel_svg.specs.Marks.{KeepsHalfEdge, TellsEach}
use Rattle.dcel_svg.proofs.marks.changed_half_edges.Given as goal

abbrev pub invariant-loop-number : goal.invariant-loop-number
invariant-loop-number g l = TellsEach (KeepsHalfEdge l.old.shape l.mesh.shape) l.number l.marks.items
