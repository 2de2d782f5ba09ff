use Rattle.std.proofs.Common.{length}
use Rattle.dcel_convenience.proofs.Gathered.{gathers-none}
use Rattle.dcel_convenience.proofs.vertices.degrees.Goals as goal
use Rattle.dcel_maps.specs.Numbers.{numbers_between}
use Rattle.dcel_maps.specs.Walking.{out_edges_of}

pub loop-vertex-init : goal.loop-vertex-init
loop-vertex-init g c =
    let m = c.args.dcel.now in
    gathers-none (λ n v. length (out_edges_of n v)) m (numbers_between 0 m.shape.vertices) c.new-degrees.result.items c.into_iter-vertex-iterator.result
    c.new-degrees.ensures.items (rw c.into_iter-vertex-iterator.ensures.into_iter_gives c.vertices-vertex-items.ensures.items)
