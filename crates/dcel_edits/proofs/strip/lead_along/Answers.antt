use Rattle.dcel_edits.proofs.Along.{lead_can, lead_goes_on}
use Rattle.dcel_edits.proofs.strip.lead_along.Goals as goal

pub lead-requires : goal.lead-requires
lead-requires g c =
    lead_can c.args.store.now c.args.before c.args.items.now c.loop-edge.store c.loop-edge.end c.loop-edge.left.now c.loop-edge.invariant
    c.in-Some.field-0-0.now c.in-Some.after.now c.in-Some.ensures.cases.0

pub loop-edge-preserved : goal.loop-edge-preserved
loop-edge-preserved g c =
    rw c.lead.ensures
    (lead_goes_on c.args.store.now c.args.before c.args.items.now c.loop-edge.store c.loop-edge.end c.loop-edge.left.now c.loop-edge.invariant
    c.in-Some.field-0-0.now c.in-Some.after.now c.in-Some.ensures.cases.0)
