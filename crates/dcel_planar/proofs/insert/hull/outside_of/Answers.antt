use Rattle.dcel_planar.proofs.Seeking.{seeking_continues, seeking_ends, sought}
use Rattle.dcel_planar.proofs.insert.hull.outside_of.Goals as goal

pub returns-then-is_outer_edge-clause-some : goal.returns-then-is_outer_edge-clause-some
returns-then-is_outer_edge-clause-some g c =
    let m = c.args.dcel.now in
    let came = seeking_continues m c.args.vertex _ _ _ _ c.loop-edge.invariant c.in-Some.ensures.steps.0 in
    sought m c.args.vertex _ _ _ came.0 came.1.starts (c.is_outer_edge.ensures.0 c.if-is_outer_edge.true) c.fix.ensures.value

pub loop-edge-preserved : goal.loop-edge-preserved
loop-edge-preserved g c =
    let m = c.args.dcel.now in
    let came = seeking_continues m c.args.vertex _ _ _ _ c.loop-edge.invariant c.in-Some.ensures.steps.0 in
    came.1.goes_on (λ outer. let yes = c.is_outer_edge.ensures.1 (rw came.0 outer) in let fails = c.if-is_outer_edge.false in cc)

pub returns-clause-none : goal.returns-clause-none
returns-clause-none g c = λ h outside.
    seeking_ends c.args.dcel.now c.args.vertex _ c.loop-edge.invariant c.in_default.ensures.steps.0.0 h outside
