use Rattle.std.proofs.Common.{◌∙◌, ap, arith, length, reverse}
use Rattle.dcel_maps.specs.Renumbering.{new_number}
use Rattle.dcel_delaunay.proofs.Renaming.{partly_all, partly_long, partly_none, partly_put}
use Rattle.dcel_delaunay.proofs.remove.cleanup.renumber.Goals as goal

pub loop-at-init : goal.loop-at-init
loop-at-init g c = partly_none _ _

pub loop-at-preserved : goal.loop-at-preserved
loop-at-preserved g c =
    partly_put (new_number c.args.count (reverse c.args.taken_out.now)) c.loop-at.at c.index-edge.result.now c.number_after.result c.args.due.now.items c.loop-at.due.items
    c.put.new.due.items c.loop-at.invariant (omega (arith, c.loop-at-test.true, c.len.ensures, c.loop-at.due.ok)) c.index-edge.ensures c.number_after.ensures c.put.ensures.items

pub returns : goal.returns
returns g c =
    let f = new_number c.args.count (reverse c.args.taken_out.now) in
    let long = partly_long f c.loop-at.at c.args.due.now.items in
    c.loop-at.invariant
    ∙ partly_all f c.loop-at.at c.args.due.now.items (omega (arith, c.loop-at-test.false, c.len.ensures, c.loop-at.due.ok, ap length c.loop-at.invariant, long))
