use Rattle.dcel_predicates.proofs.Machine.{in_128}
use Rattle.dcel_plane.specs.Plane.{point_at}
use Rattle.dcel_constrained.proofs.Opening.{end_told, opens_by_signs, outer_back}
use Rattle.dcel_constrained.proofs.Widths.{offset_held}
use Rattle.dcel_constrained.proofs.segments.walk.opens.Goals as goal

pub returns : goal.returns
returns g c =
    let m = c.args.dcel.now in
    let at = point_at m in
    let half = c.directed_edge-half in
    opens_by_signs at m.shape c.args.from c.args.to c.args.edge c.fix.result c.near_corner.result (in_128 c.offset_of-right.result) (in_128 c.offset_of-left.result) c.is_split.result
    (λ outer. (let yes = c.is_outer_edge.ensures.1 (outer_back m c.args.edge half.result.dcel.now half.result.number half.ensures.mesh half.ensures.number outer) in let no = c.if-is_outer_edge.false in cc))
    (end_told m c.args.edge half.result.dcel.now half.result.number c.fix.result c.to.result.number half.ensures.mesh half.ensures.number c.to.ensures.number c.fix.ensures.value)
    c.near_corner.ensures.value
    (offset_held c.offset_of-right.result (at c.args.from) (at c.args.to) (at c.fix.result) c.offset_of-right.ensures)
    (offset_held c.offset_of-left.result (at c.args.from) (at c.args.to) (at c.near_corner.result) c.offset_of-left.ensures)
    c.is_split.ensures
