use Rattle.dcel_exchange.specs.Bordering.{AreLinked}
use Rattle.dcel_exchange.proofs.linking.list_links.Given as goal

abbrev pub invariant-loop-half : goal.invariant-loop-half
invariant-loop-half g l =
    AreLinked l.numbering.side.items l.numbering.half.items l.sides.after.items l.sides.face.items l.numbering.origin.items l.border.items l.half l.next.items l.face.items
