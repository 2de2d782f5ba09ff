use Rattle.dcel_maps.specs.Shapes.{next_of}
use Rattle.dcel_maps.specs.Walking.{ccw_of, walk_of}
use Rattle.dcel_convenience.proofs.Gathered.{gathers-none}
use Rattle.dcel_convenience.proofs.taking_out.border_from.Goals as goal

pub loop-spoke-init : goal.loop-spoke-init
loop-spoke-init g c =
    let m = c.args.first.dcel.now in
    gathers-none (λ m h. next_of m.shape h) m (walk_of m.shape (ccw_of m.shape) c.args.first.number) c.new-border.result.items c.into_iter-spoke-iterator.result.items
    c.new-border.ensures.items (rw c.into_iter-spoke-iterator.ensures.into_iter_gives c.new-spokes.ensures.items)
