use Rattle.dcel_svg.specs.Marks.{KeepsVertex, TellsEach}
use Rattle.dcel_svg.proofs.marks.changed_vertices.Given as goal

abbrev pub invariant-loop-number : goal.invariant-loop-number
invariant-loop-number g l = TellsEach (KeepsVertex l.old.shape l.mesh.shape) l.number l.marks.items
