use Rattle.dcel_maps.specs.Shapes.{next_of}
use Rattle.dcel_maps.specs.Walking.{ccw_of, walk_of}
use Rattle.dcel_delaunay.proofs.Gathered.{gathers_none}
use Rattle.dcel_delaunay.proofs.remove.corner.strip_around.Goals as goal

pub loop-edge-init : goal.loop-edge-init
loop-edge-init g c =
    let m = c.args.outside.dcel.now in
    gathers_none (λ n h. next_of n.shape h) m (walk_of m.shape (ccw_of m.shape) c.args.outside.number) c.new-strip.result.items c.into_iter-edge-iterator.result.items
    c.new-strip.ensures.items (rw c.into_iter-edge-iterator.ensures.into_iter_gives c.new-around.ensures.items)
