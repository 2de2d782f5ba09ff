use Rattle.dcel_edits.proofs.Public.{mesh-is-mesh}
use Rattle.spade_dcel.proofs.Linked.{Made, made}
use Rattle.spade_dcel.proofs.OneShape.{one_shape}
use Rattle.spade_dcel.proofs.operations.given.make.Goals as goal

-- what was written holds a mesh with these links and anchors, also once the list backwards is let go
made_here : (g : _) (c : goal.After-put g) → Made c.put.new.store c.in-Ok-with_room.removal c.args.links c.args.anchors c.args.given
made_here g c =
    made c.in-Ok-with_room.store c.put.new.store c.in-Ok-with_room.removal c.args.links c.in-Ok.prev.items c.deref.result.now c.args.anchors c.args.given
    c.in-Ok.ensures.mesh c.deref.ensures.value c.in-Ok.ensures.edges c.in-Ok.ensures.anchors c.put.ensures c.in-Ok-with_room.ensures.closed

made_then : (g : _) (c : goal.After-drop-prev-2 g) → Made c.put.new.store c.in-Ok-with_room.removal c.args.links c.args.anchors c.args.given
made_then g c =
    made c.in-Ok-with_room.store c.put.new.store c.in-Ok-with_room.removal c.args.links c.in-Ok.prev.items c.deref.result.now c.args.anchors c.args.given
    c.in-Ok.ensures.mesh c.deref.ensures.value c.in-Ok.ensures.edges c.in-Ok.ensures.anchors c.put.ensures c.in-Ok-with_room.ensures.closed

pub invariant_of-result : goal.invariant_of-result
invariant_of-result g c = (made_here g c).stored

pub returns-clause-links : goal.returns-clause-links
returns-clause-links g c = (made_then g c).linked

pub returns-clause-mesh : goal.returns-clause-mesh
returns-clause-mesh g c = mesh-is-mesh _ _ (made_then g c).stored

pub returns-clause-only : goal.returns-clause-only
returns-clause-only g c =
    let made = made_then g c in
    λ m mesh linked. one_shape m _ _ mesh (mesh-is-mesh _ _ made.stored) linked made.linked

pub returns-clause-vertex_anchors : goal.returns-clause-vertex_anchors
returns-clause-vertex_anchors g c = (made_then g c).vertices

pub returns-clause-face_anchors : goal.returns-clause-face_anchors
returns-clause-face_anchors g c = (made_then g c).faces
