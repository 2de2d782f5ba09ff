use Rattle.std.proofs.Common.{◌∙◌, refl}
use Rattle.dcel_maps.specs.Shapes.{face_anchor, face_count}
use Rattle.dcel_exchange.proofs.ListedAnchors.{gathers-none}
use Rattle.dcel_exchange.proofs.lists.list_face_anchors.Goals as goal

pub loop-face-init : goal.loop-face-init
loop-face-init g c =
    gathers-none (λ m n. face_anchor m n) c.args.dcel.now.face_anchors c.args.dcel.now (face_count c.args.dcel.now.shape) c.new-anchors.result.items c.into_iter-face-iterator.result
    c.new-anchors.ensures.items (c.into_iter-face-iterator.ensures.into_iter_gives ∙ c.faces-face-items.ensures.items) c.every_mesh.ensures.sized.face_anchors refl
