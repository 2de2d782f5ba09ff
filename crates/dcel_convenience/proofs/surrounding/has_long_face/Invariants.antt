use Rattle.dcel_convenience.specs.Surrounding.{IsInLongFace}
use Rattle.dcel_convenience.proofs.Passes.{Passes}
use Rattle.dcel_convenience.proofs.surrounding.has_long_face.Given as goal

abbrev pub invariant-loop-edge : goal.invariant-loop-edge
invariant-loop-edge g l = Passes l.fn.dcel l.fn.vertex (λ k. ¬ IsInLongFace l.fn.dcel.shape k) l.edge-iterator.items
