use Rattle.dcel_exchange.proofs.Borders.{linked_one}
use Rattle.dcel_exchange.proofs.linking.list_links.Goals as goal

pub loop-half-preserved : goal.loop-half-preserved
loop-half-preserved g c =
    linked_one c.args.numbering.now.side.items c.args.numbering.now.half.items c.args.sides.now.after.items c.args.sides.now.face.items
    c.args.numbering.now.origin.items c.args.border.now.items c.loop-half.half c.loop-half.next.items c.loop-half.face.items
    c.push.new.self.items c.push-in-loop-half.new.self.items c.next_after.result c.face_of.result c.loop-half.invariant
    c.in_ok-push.ensures.items c.in_ok-push-2.ensures.items c.next_after.ensures.side c.face_of.ensures.side c.face_of.ensures.border
    c.next_after.ensures.border
