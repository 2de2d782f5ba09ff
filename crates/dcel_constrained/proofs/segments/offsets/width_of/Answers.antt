use Rattle.std.proofs.Common.{rules, ◌∙◌}
use Rattle.dcel_plane.specs.Plane.{point_at}
use Rattle.dcel_constrained.proofs.Widths.{difference_fits, difference_is, offset_within}
use Rattle.dcel_constrained.proofs.segments.offsets.width_of.Goals as goal

pub overflow_sub-result : goal.overflow_sub-result
overflow_sub-result g c =
    let at = point_at c.args.dcel.now in
    difference_fits c.offset_of-end.result c.offset_of-start.result
    (offset_within c.offset_of-end.result (at c.args.from) (at c.args.to) (at c.fix.result) c.offset_of-end.ensures)
    (offset_within c.offset_of-start.result (at c.args.from) (at c.args.to) (at c.fix-2.result) c.offset_of-start.ensures)

pub returns : goal.returns
returns g c =
    let at = point_at c.args.dcel.now in
    difference_is c.offset_of-end.result c.offset_of-start.result
    (offset_within c.offset_of-end.result (at c.args.from) (at c.args.to) (at c.fix.result) c.offset_of-end.ensures)
    (offset_within c.offset_of-start.result (at c.args.from) (at c.args.to) (at c.fix-2.result) c.offset_of-start.ensures) ∙ search rules
