use Rattle.dcel_convenience.specs.Simple.{IsOnly}
use Rattle.dcel_convenience.proofs.Passes.{Passes}
use Rattle.dcel_convenience.proofs.collapsing.has_only_edges.Given as goal

abbrev pub invariant-loop-edge : goal.invariant-loop-edge
invariant-loop-edge g l = Passes l.fn.dcel l.fn.vertex (λ k. IsOnly l.fn.dcel.shape k) l.edge-iterator.items
