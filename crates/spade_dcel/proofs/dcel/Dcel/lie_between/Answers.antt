use Rattle.dcel_maps.specs.theory.RingTests.{EdgeFits}
use Rattle.dcel_maps.proofs.removal.RingLoops.{each_goes_on}
use Rattle.spade_dcel.proofs.dcel.Dcel.lie_between.Goals as goal

pub loop-edge-preserved : goal.loop-edge-preserved
loop-edge-preserved g c =
    each_goes_on (EdgeFits c.args.self.now.shape c.args.faces.now) c.args.edges.now c.loop-edge.left.now c.loop-edge.invariant
    c.in-Some.field-0-0.now c.in-Some.after.now c.in-Some.ensures.cases.0 (c.lies_between.ensures.0 c.if-not-lies_between.false)
