use Rattle.dcel_maps.specs.Shapes.{next_of}
use Rattle.dcel_maps.specs.Walking.{ccw_of, walk_of}
use Rattle.dcel_convenience.proofs.Gathered.{gathers-none}
use Rattle.dcel_convenience.proofs.cutting_off.strip_around.Goals as goal

pub loop-spoke-init : goal.loop-spoke-init
loop-spoke-init g c =
    let m = c.args.outside.dcel.now in
    gathers-none (λ n h. next_of n.shape h) m (walk_of m.shape (ccw_of m.shape) c.args.outside.number) c.new-strip.result.items c.into_iter-spoke-iterator.result.items
    c.new-strip.ensures.items (rw c.into_iter-spoke-iterator.ensures.into_iter_gives c.new-spokes.ensures.items)
