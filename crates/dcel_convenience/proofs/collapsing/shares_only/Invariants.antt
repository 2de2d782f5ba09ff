use Rattle.dcel_convenience.specs.Collapsing.{AreJoinedBesides}
use Rattle.dcel_convenience.proofs.Passes.{Passes}
use Rattle.dcel_convenience.proofs.collapsing.shares_only.Given as goal
use Rattle.dcel_maps.specs.Shapes.{end_of}

abbrev pub invariant-loop-edge : goal.invariant-loop-edge
invariant-loop-edge g l =
    let s = l.fn.dcel.shape in
    Passes l.fn.dcel l.fn.start (λ k. ¬ AreJoinedBesides s l.fn.end (end_of s k) l.fn.left l.fn.right) l.edge-iterator.items
