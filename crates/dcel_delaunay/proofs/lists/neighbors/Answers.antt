use Rattle.std.proofs.Common.{◌∙◌}
use Rattle.dcel_delaunay.specs.Lists.{across_of, inner_faces}
use Rattle.dcel_delaunay.proofs.Gathered.{gathers_none}
use Rattle.dcel_delaunay.proofs.listing.Elements.{live_faces}
use Rattle.dcel_delaunay.proofs.lists.neighbors.Goals as goal

pub loop-face-init : goal.loop-face-init
loop-face-init g c =
    let m = c.args.mesh.now in
    gathers_none (λ n f. across_of n f) m (inner_faces m.shape) c.in_ok-list.list.items c.into_iter-face-iterator.result c.in_ok-list.ensures.items
    (c.into_iter-face-iterator.ensures.into_iter_gives ∙ c.live_inner_faces-face-items.ensures.items ∙ live_faces m c.every_mesh.ensures c.requires)
