use Rattle.dcel_maps.specs.Shapes.{face_anchor}
use Rattle.dcel_exchange.proofs.ListedAnchors.{Gathers}
use Rattle.dcel_exchange.proofs.lists.list_face_anchors.Given as goal

abbrev pub invariant-loop-face : goal.invariant-loop-face
invariant-loop-face g l = Gathers (λ m n. face_anchor m n) l.dcel.face_anchors l.anchors.items l.face-iterator
