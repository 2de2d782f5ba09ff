use Rattle.std.proofs.Common.{ℕ, subst, sym}
use Rattle.dcel_maps.specs.Walking.{IsOutEdge}
use Rattle.dcel_plane.specs.Plane.{point_at}
use Rattle.dcel_plane.specs.segments.Segments.{LeadsAlong}
use Rattle.dcel_planar.proofs.Searching.{search_begins, search_continues, search_ends}
use Rattle.dcel_constrained.proofs.Online.{some_along}
use Rattle.dcel_constrained.proofs.Opening.{vertices_of}
use Rattle.dcel_constrained.proofs.segments.ways.first_along.Goals as goal

pub vertex-requires : goal.vertex-requires
vertex-requires g c = (vertices_of c.args.dcel.now (c.every_mesh.ensures) c.args.from c.args.to c.requires.ends).from

pub loop-edge-init : goal.loop-edge-init
loop-edge-init g c =
    let m = c.args.dcel.now in
    search_begins (LeadsAlong (point_at m) m.shape c.args.from c.args.to) m c.args.from _ _ _ c.vertex.ensures.mesh c.vertex.ensures.number c.out_edges-edges.ensures.items
    c.out_edges-edges.ensures.each

pub leads_along-requires-clause-ends : goal.leads_along-requires-clause-ends
leads_along-requires-clause-ends g c = vertices_of c.args.dcel.now (c.every_mesh.ensures) c.args.from c.args.to c.requires.ends

pub leads_along-requires-clause-out : goal.leads_along-requires-clause-out
leads_along-requires-clause-out g c =
    let m = c.args.dcel.now in
    let came = search_continues (LeadsAlong (point_at m) m.shape c.args.from c.args.to) m c.args.from _ _ _ _ c.loop-edge.invariant c.in-Some.ensures.steps.0 in
    subst (λ (k : ℕ). IsOutEdge m.shape c.args.from k) (sym c.fix-half.ensures.value) came.1.starts

pub returns-then-leads_along : goal.returns-then-leads_along
returns-then-leads_along g c = c.leads_along.ensures.0 c.if-leads_along.true

pub loop-edge-preserved : goal.loop-edge-preserved
loop-edge-preserved g c =
    let m = c.args.dcel.now in
    let came = search_continues (LeadsAlong (point_at m) m.shape c.args.from c.args.to) m c.args.from _ _ _ _ c.loop-edge.invariant c.in-Some.ensures.steps.0 in
    came.1.goes_on (λ along. (let yes = c.leads_along.ensures.1 (rw c.fix-half.ensures.value along) in let no = c.if-leads_along.false in cc))

pub unreachable-requires : goal.unreachable-requires
unreachable-requires g c =
    let m = c.args.dcel.now in
    let some = some_along m c.every_mesh.ensures (point_at m) c.requires.straight c.args.from c.args.to c.requires.differ c.requires.ends in
    search_ends (LeadsAlong (point_at m) m.shape c.args.from c.args.to) m c.args.from _ c.loop-edge.invariant c.in_default.ensures.steps.0.0 some.0
    (record { live = some.1.live; start = some.1.from }) some.1
