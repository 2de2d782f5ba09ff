use Rattle.std.proofs.Common.{◌≡◌, length}
use Rattle.dcel_exchange.specs.Bordering.{AreFound}
use Rattle.dcel_exchange.proofs.linking.find_border.Given as goal

abbrev pub invariant-loop-half : goal.invariant-loop-half
invariant-loop-half g l = record {
  places : length l.border.items ≡ l.fn.vertices;
  found : AreFound l.numbering.side.items l.numbering.origin.items l.half l.border.items;
}
