use Rattle.dcel_constrained.specs.Soundness.{constraint_count}
use Rattle.dcel_constrained.proofs.Freed.{IsFreeingFrom}
use Rattle.dcel_constrained.proofs.remove.free_edges_of.Given as goal

abbrev pub invariant-loop-marked : goal.invariant-loop-marked
invariant-loop-marked g l = IsFreeingFrom l.fn.dcel l.fn.vertex l.dcel l.due.items l.half

-- each turn frees an edge
abbrev pub decreases-loop-marked : goal.decreases-loop-marked
decreases-loop-marked g l = constraint_count l.dcel
