use Rattle.dcel_predicates.proofs.Machine.{in_128}
use Rattle.dcel_plane.specs.Plane.{point_at}
use Rattle.dcel_constrained.proofs.Stepwise.{becomes_itself, becomes_nothing}
use Rattle.dcel_constrained.proofs.Widths.{offset_held}
use Rattle.dcel_constrained.proofs.segments.flips.crossing_after.Goals as goal

pub returns-then-is_split : goal.returns-then-is_split
returns-then-is_split g c =
    let m = c.args.dcel.now in
    let at = point_at m in
    becomes_itself at m.shape c.args.from c.args.to c.args.edge c.near_corner.result c.far_corner.result (in_128 c.offset_of-near.result) (in_128 c.offset_of-far.result)
    c.near_corner.ensures.value c.far_corner.ensures.value
    (offset_held c.offset_of-near.result (at c.args.from) (at c.args.to) (at c.near_corner.result) c.offset_of-near.ensures)
    (offset_held c.offset_of-far.result (at c.args.from) (at c.args.to) (at c.far_corner.result) c.offset_of-far.ensures)
    (c.is_split.ensures.0 c.if-is_split.true)

pub returns : goal.returns
returns g c =
    let m = c.args.dcel.now in
    let at = point_at m in
    becomes_nothing at m.shape c.args.from c.args.to c.args.edge c.near_corner.result c.far_corner.result (in_128 c.offset_of-near.result) (in_128 c.offset_of-far.result)
    c.near_corner.ensures.value c.far_corner.ensures.value
    (offset_held c.offset_of-near.result (at c.args.from) (at c.args.to) (at c.near_corner.result) c.offset_of-near.ensures)
    (offset_held c.offset_of-far.result (at c.args.from) (at c.args.to) (at c.far_corner.result) c.offset_of-far.ensures)
    (λ both. (let yes = c.is_split.ensures.1 both in let no = c.if-is_split.false in cc))
    (λ both. (let yes = c.is_split-2.ensures.1 both in let no = c.if-is_split-2.false in cc))
