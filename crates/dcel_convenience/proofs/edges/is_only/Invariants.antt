use Rattle.std.proofs.Common.{length}
use Rattle.dcel_convenience.proofs.OnlyEdges.{IsNoSecond, IsNoSecondBack}
use Rattle.dcel_convenience.proofs.Passes.{Passes}
use Rattle.dcel_convenience.proofs.edges.is_only.Given as goal
use Rattle.dcel_maps.specs.Shapes.{end_of, origin_of}

abbrev pub invariant-loop-near : goal.invariant-loop-near
invariant-loop-near g l =
    let s = l.fn.dcel.shape in
    Passes l.fn.dcel (origin_of s l.fn.half) (IsNoSecond s l.fn.half) l.here.items × Passes l.fn.dcel (end_of s l.fn.half) (IsNoSecondBack s l.fn.half) l.there.items

abbrev pub decreases-loop-near : goal.decreases-loop-near
decreases-loop-near g l = length l.here.items
