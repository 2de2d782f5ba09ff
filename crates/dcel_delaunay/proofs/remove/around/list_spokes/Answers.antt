use Rattle.dcel_delaunay.proofs.Around.{spokes_begin, spokes_end, spokes_more, spokes_room}
use Rattle.dcel_delaunay.proofs.remove.around.list_spokes.Goals as goal

pub loop-spoke-init : goal.loop-spoke-init
loop-spoke-init g c =
    spokes_begin c.args.dcel.now c.args.vertex _ _ _ c.args.due.now.items _ _ c.vertex.ensures.mesh c.vertex.ensures.number c.out_edges-spokes.ensures.items c.requires.places

pub push_reserved-requires : goal.push_reserved-requires
push_reserved-requires g c = spokes_room c.args.dcel.now c.args.vertex _ _ _ _ _ _ _ _ c.loop-spoke.invariant c.in-Some.ensures.steps.0

pub loop-spoke-preserved : goal.loop-spoke-preserved
loop-spoke-preserved g c =
    rw c.push_reserved.ensures.capacity
    (spokes_more c.args.dcel.now c.args.vertex _ _ _ _ _ _ _ _ c.loop-spoke.invariant c.in-Some.ensures.steps.0 _ _
    (rw (c.as_undirected.ensures, c.fix.ensures.value) at c.push_reserved.ensures.items) c.push_reserved.ensures.len)

pub returns : goal.returns
returns g c = spokes_end c.args.dcel.now c.args.vertex _ _ _ _ _ c.loop-spoke.invariant c.in_default.ensures.steps.0.0
