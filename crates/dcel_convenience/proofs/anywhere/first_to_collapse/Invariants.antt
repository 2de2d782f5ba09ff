use Rattle.dcel_convenience.specs.Collapsing.{CanCollapse}
use Rattle.dcel_convenience.proofs.Looking.{Looks}
use Rattle.dcel_convenience.proofs.anywhere.first_to_collapse.Given as goal

abbrev pub invariant-loop-edge : goal.invariant-loop-edge
invariant-loop-edge g l = Looks l.fn.dcel l.fn.vertex (λ k. CanCollapse l.fn.dcel.shape k) l.edge-iterator.items
