use Rattle.std.proofs.Common.{◌∙◌, refl}
use Rattle.dcel_maps.specs.Shapes.{vertex_anchor}
use Rattle.dcel_exchange.proofs.ListedAnchors.{gathers-none}
use Rattle.dcel_exchange.proofs.lists.list_vertex_anchors.Goals as goal

pub loop-vertex-init : goal.loop-vertex-init
loop-vertex-init g c =
    gathers-none (λ m n. vertex_anchor m n) c.args.dcel.now.vertex_anchors c.args.dcel.now c.args.dcel.now.shape.vertices c.new-anchors.result.items c.into_iter-vertex-iterator.result
    c.new-anchors.ensures.items (c.into_iter-vertex-iterator.ensures.into_iter_gives ∙ c.vertices-vertex-items.ensures.items) c.every_mesh.ensures.sized.vertex_anchors refl
