use Rattle.dcel_maps.specs.Shapes.{origin_of}
use Rattle.dcel_maps.specs.Walking.{hull_of}
use Rattle.dcel_delaunay.proofs.Gathered.{gathers_none}
use Rattle.dcel_delaunay.proofs.lists.hull.Goals as goal

pub loop-edge-init : goal.loop-edge-init
loop-edge-init g c =
    let m = c.args.mesh.now in
    gathers_none (λ n h. origin_of n.shape h) m (hull_of m) c.new-list.result.items c.into_iter-edge-iterator.result.items c.new-list.ensures.items
    (rw c.into_iter-edge-iterator.ensures.into_iter_gives c.new-edge-items.ensures.items)
