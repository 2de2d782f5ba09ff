use Rattle.dcel_maps.specs.Shapes.{end_of}
use Rattle.dcel_maps.specs.Walking.{out_edges_of}
use Rattle.dcel_convenience.proofs.Gathered.{gathers-none}
use Rattle.dcel_convenience.proofs.vertices.neighbors.Goals as goal

pub loop-edge-init : goal.loop-edge-init
loop-edge-init g c =
    let m = c.args.vertex.dcel.now in
    gathers-none (λ m h. end_of m.shape h) m (out_edges_of m c.args.vertex.number) c.new-ends.result.items c.into_iter-edge-iterator.result.items
    c.new-ends.ensures.items (rw c.into_iter-edge-iterator.ensures.into_iter_gives c.out_edges-edge-items.ensures.items)
