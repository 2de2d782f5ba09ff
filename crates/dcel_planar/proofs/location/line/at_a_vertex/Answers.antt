use Rattle.std.proofs.Common.{ℕ, rules, arith}
use borrow.Author.Count.{below_more}
use Rattle.dcel_planar.specs.Places.{HasPoint}
use Rattle.dcel_planar.proofs.location.line.at_a_vertex.Goals as goal

pub returns : goal.returns
returns g c = (c.requires.none, c.requires.alone, λ v below. c.loop-index.invariant v (omega (arith, below, c.loop-index-test.false, c.num_vertices-index-end.ensures.count)))

pub loop-index-preserved : goal.loop-index-preserved
loop-index-preserved g c =
    let m = c.args.dcel.now in
    let p = c.args.point in
    let here : ¬ HasPoint m p c.loop-index.index = search rules in
    below_more (λ (v : ℕ). ¬ HasPoint m p v) c.loop-index.index c.loop-index.invariant here
