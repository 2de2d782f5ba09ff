use Rattle.std.proofs.Common.{map}
use Rattle.dcel_c.proofs.Buffers.{PutSoFar}
use Rattle.dcel_c.proofs.walks.put_walk.Given as goal

-- some of the walk were counted, and those that fit were put
abbrev pub invariant-loop-edge : goal.invariant-loop-edge
invariant-loop-edge g l = PutSoFar (map (λ edge. edge.1) l.fn.walk.items) (map (λ edge. edge.1) l.edge-iterator.items) l.needed l.fn.edges l.edges
