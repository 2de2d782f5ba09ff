use Rattle.dcel_constrained.proofs.Blocked.{ListedTo}
use Rattle.dcel_constrained.proofs.segments.blocking.blocking.Given as goal

abbrev pub invariant-loop-number : goal.invariant-loop-number
invariant-loop-number g l = ListedTo l.fn.dcel l.fn.from l.fn.to l.number l.edges.items
