use Rattle.dcel_predicates.proofs.Machine.{in_128}
use Rattle.dcel_plane.specs.Plane.{point_at}
use Rattle.dcel_constrained.proofs.Blocked.{crosses_by, crosses_not, start_told}
use Rattle.dcel_constrained.proofs.Opening.{end_told}
use Rattle.dcel_constrained.proofs.Widths.{offset_held}
use Rattle.dcel_constrained.proofs.segments.blocking.crosses.Goals as goal

pub returns-then-not-is_split : goal.returns-then-not-is_split
returns-then-not-is_split g c =
    let m = c.args.dcel.now in
    let at = point_at m in
    let half = c.directed_edge-edge in (
      λ yes. absurd (let no = yes in cc),
      λ crosses. absurd
          (crosses_not at m.shape c.args.from c.args.to c.args.half c.fix-start.result c.fix-end.result c.is_split.result (in_128 c.offset_of-right.result) (in_128 c.offset_of-left.result)
          (start_told m c.args.half half.result.dcel.now half.result.number c.fix-start.result c.from.result.number half.ensures.mesh half.ensures.number c.from.ensures.number c.fix-start.ensures.value)
          (end_told m c.args.half half.result.dcel.now half.result.number c.fix-end.result c.to.result.number half.ensures.mesh half.ensures.number c.to.ensures.number c.fix-end.ensures.value)
          (offset_held c.offset_of-right.result (at c.args.from) (at c.args.to) (at c.fix-start.result) c.offset_of-right.ensures)
          (offset_held c.offset_of-left.result (at c.args.from) (at c.args.to) (at c.fix-end.result) c.offset_of-left.ensures) c.is_split.ensures
          (λ yes. (let no = c.if-not-is_split.true in cc)) crosses),
    )

pub returns : goal.returns
returns g c =
    let m = c.args.dcel.now in
    let at = point_at m in
    let half = c.directed_edge-edge in
    crosses_by at m.shape c.args.from c.args.to c.args.half c.fix-start.result c.fix-end.result c.is_split.result c.is_split-2.result (in_128 c.offset_of-right.result)
    (in_128 c.offset_of-left.result) (in_128 c.offset_of-far.result) (in_128 c.offset_of-near.result) c.requires.live
    (start_told m c.args.half half.result.dcel.now half.result.number c.fix-start.result c.from.result.number half.ensures.mesh half.ensures.number c.from.ensures.number c.fix-start.ensures.value)
    (end_told m c.args.half half.result.dcel.now half.result.number c.fix-end.result c.to.result.number half.ensures.mesh half.ensures.number c.to.ensures.number c.fix-end.ensures.value)
    (offset_held c.offset_of-right.result (at c.args.from) (at c.args.to) (at c.fix-start.result) c.offset_of-right.ensures)
    (offset_held c.offset_of-left.result (at c.args.from) (at c.args.to) (at c.fix-end.result) c.offset_of-left.ensures)
    (offset_held c.offset_of-far.result (at c.fix-start.result) (at c.fix-end.result) (at c.args.to) c.offset_of-far.ensures)
    (offset_held c.offset_of-near.result (at c.fix-start.result) (at c.fix-end.result) (at c.args.from) c.offset_of-near.ensures) c.is_split.ensures c.if-not-is_split.false c.is_split-2.ensures
