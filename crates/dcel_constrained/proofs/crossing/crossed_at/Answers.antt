use Rattle.std.proofs.Common.{◌∙◌, ap}
use Rattle.dcel_plane.specs.Plane.{point_at}
use Rattle.dcel_constrained.proofs.Blocked.{start_told}
use Rattle.dcel_constrained.proofs.Intersected.{named_over, named_place}
use Rattle.dcel_constrained.proofs.Opening.{end_told}
use Rattle.dcel_constrained.proofs.crossing.crossed_at.Goals as goal

pub crossing_of-requires : goal.crossing_of-requires
crossing_of-requires g c =
    let m = c.args.dcel.now in
    let half = c.directed_edge-edge in
    let start = start_told m c.args.half half.result.dcel.now half.result.number c.fix.result c.from.result.number half.ensures.mesh half.ensures.number c.from.ensures.number c.fix.ensures.value in
    let end = end_told m c.args.half half.result.dcel.now half.result.number c.fix-2.result c.to.result.number half.ensures.mesh half.ensures.number c.to.ensures.number c.fix-2.ensures.value in
    named_over (point_at m) m.shape c.args.from c.args.to c.args.half c.point_of.result c.point_of-2.result c.point_of-start.result c.point_of-end.result c.point_of.ensures c.point_of-2.ensures
    (c.point_of-start.ensures ∙ ap (point_at m) start) (c.point_of-end.ensures ∙ ap (point_at m) end) c.requires.crosses

pub returns : goal.returns
returns g c =
    let m = c.args.dcel.now in
    let half = c.directed_edge-edge in
    let start = start_told m c.args.half half.result.dcel.now half.result.number c.fix.result c.from.result.number half.ensures.mesh half.ensures.number c.from.ensures.number c.fix.ensures.value in
    let end = end_told m c.args.half half.result.dcel.now half.result.number c.fix-2.result c.to.result.number half.ensures.mesh half.ensures.number c.to.ensures.number c.fix-2.ensures.value in
    named_place c.crossing_of.result c.point_of.ensures c.point_of-2.ensures (c.point_of-start.ensures ∙ ap (point_at m) start) (c.point_of-end.ensures ∙ ap (point_at m) end) c.crossing_of.ensures
