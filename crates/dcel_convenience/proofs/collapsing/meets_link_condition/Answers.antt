use Rattle.std.proofs.Common.{◌∙◌, ap}
use Rattle.dcel_convenience.proofs.Joined.{link_each, link_holds}
use Rattle.dcel_convenience.proofs.collapsing.meets_link_condition.Goals as goal
use Rattle.dcel_fixed.proofs.Halves.{rev-half}
use Rattle.dcel_maps.specs.Shapes.{edge_is_live}

pub start_of-end-requires : goal.start_of-end-requires
start_of-end-requires g c = rw c.rev.ensures (ap (edge_is_live c.args.dcel.now.shape) (rev-half c.args.half) ∙ c.requires)

pub corner_of-right-requires : goal.corner_of-right-requires
corner_of-right-requires g c = rw c.rev-2.ensures (ap (edge_is_live c.args.dcel.now.shape) (rev-half c.args.half) ∙ c.requires)

pub returns : goal.returns
returns g c =
    let s = c.args.dcel.now.shape in
    let told =
    rw (c.start_of-start.ensures.start, c.start_of-end.ensures.start, c.corner_of-left.ensures, c.corner_of-right.ensures, c.rev.ensures, c.rev-2.ensures)
    at c.shares_only.ensures in
    (λ yes. link_holds s c.args.half (told.0 yes), λ meets. told.1 (link_each s c.args.half meets))
