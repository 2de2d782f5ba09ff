use Rattle.std.proofs.Common.{◌≢◌, length}
use Rattle.dcel_convenience.proofs.Passes.{Passes}
use Rattle.dcel_convenience.proofs.edges.are_joined.Given as goal
use Rattle.dcel_maps.specs.Shapes.{end_of}

abbrev pub invariant-loop-near : goal.invariant-loop-near
invariant-loop-near g l =
    let s = l.fn.dcel.shape in
    Passes l.fn.dcel l.fn.one (λ k. end_of s k ≢ l.fn.other) l.here.items × Passes l.fn.dcel l.fn.other (λ k. end_of s k ≢ l.fn.one) l.there.items

abbrev pub decreases-loop-near : goal.decreases-loop-near
decreases-loop-near g l = length l.here.items
