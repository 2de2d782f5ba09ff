use Rattle.std.proofs.Common.{◌∙◌}
use Rattle.dcel_maps.specs.Numbers.{numbers_between}
use Rattle.dcel_plane.specs.Plane.{point_at}
use Rattle.dcel_delaunay.proofs.Gathered.{gathers_none}
use Rattle.dcel_delaunay.proofs.listing.Elements.{points_in_order}
use Rattle.dcel_delaunay.proofs.lists.points.Goals as goal

pub loop-vertex-init : goal.loop-vertex-init
loop-vertex-init g c =
    let m = c.args.mesh.now in
    gathers_none (λ n v. point_at n v) m (numbers_between 0 m.shape.vertices) c.in_ok-list.list.items c.into_iter-vertex-iterator.result c.in_ok-list.ensures.items
    (c.into_iter-vertex-iterator.ensures.into_iter_gives ∙ c.vertices-vertex-items.ensures.items)
    ∙ points_in_order m c.every_mesh.ensures
