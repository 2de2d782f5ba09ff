use Rattle.std.proofs.Common.{◌∙◌}
use Rattle.dcel_maps.specs.Numbers.{numbers_between}
use Rattle.dcel_delaunay.proofs.Gathered.{gathers_none}
use Rattle.dcel_delaunay.proofs.listing.Elements.{live_edges}
use Rattle.dcel_output.specs.Keeping.{is_beside}
use Rattle.dcel_output.proofs.beside.edges_beside.Goals as goal

pub loop-edge-init : goal.loop-edge-init
loop-edge-init g c =
    let m = c.args.mesh.now in
    gathers_none (λ n u. is_beside n.shape c.args.flags.now u) m (numbers_between 0 m.shape.edges) c.in_ok-list.list.items c.into_iter-edge-iterator.result c.in_ok-list.ensures.items
    (c.into_iter-edge-iterator.ensures.into_iter_gives ∙ c.live_undirected_edges-edge-items.ensures.items ∙ live_edges m c.requires)
