use Rattle.std.proofs.Common.{◌∙◌, arith}
use Rattle.dcel_delaunay.proofs.Around.{link_around, link_begins, link_grows, link_places}
use Rattle.dcel_delaunay.proofs.remove.around.list_link.Goals as goal

pub loop-spoke-init : goal.loop-spoke-init
loop-spoke-init g c =
    link_begins c.args.dcel.now c.args.vertex _ _ _ c.args.due.now.items _ _ c.vertex.ensures.mesh c.vertex.ensures.number c.out_edges-spokes.ensures.items
    c.out_edges-spokes.ensures.each

pub loop-spoke-preserved : goal.loop-spoke-preserved
loop-spoke-preserved g c =
    link_grows c.args.dcel.now c.args.vertex _ _ _ _ _ _ _ _ _ _ c.loop-spoke.invariant c.in-Some.ensures.steps.0 (rw c.reserve.ensures.items at c.list_across.ensures.items) _ _
    (c.list_across.ensures.len ∙ (let same = c.reserve.ensures.len in omega (arith, same)))
    (let room = c.in_ok-reserve.ensures.ok in let same = c.reserve.ensures.len in let kept = c.list_across.ensures.capacity in omega (arith, room, same, kept))

pub returns-clause-around : goal.returns-clause-around
returns-clause-around g c =
    link_around c.args.dcel.now c.args.vertex c.every_mesh.ensures c.requires.triangles c.requires.vertex _ _ _ _ _ _ c.loop-spoke.invariant c.in_default.ensures.steps.0.0

pub returns-clause-places : goal.returns-clause-places
returns-clause-places g c = link_places c.args.dcel.now c.args.vertex _ _ _ _ _ _ c.loop-spoke.invariant c.in_default.ensures.steps.0.0

pub returns-clause-keeps : goal.returns-clause-keeps
returns-clause-keeps g c = c.loop-spoke.invariant.keeps

pub returns-in_err-reserve-clause-keeps : goal.returns-in_err-reserve-clause-keeps
returns-in_err-reserve-clause-keeps g c = rw c.reserve.ensures.items c.loop-spoke.invariant.keeps
