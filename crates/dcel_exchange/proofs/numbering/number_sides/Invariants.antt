use Rattle.std.proofs.Common.{◌≡◌, length}
use Rattle.dcel_exchange.specs.Chains.{AreChained}
use Rattle.dcel_exchange.specs.Numbering.{AreDistinct, AreNumbered}
use Rattle.dcel_exchange.proofs.numbering.number_sides.Given as goal

abbrev pub invariant-loop-side : goal.invariant-loop-side
invariant-loop-side g l = record {
  numbered : AreNumbered l.sides.from.items l.sides.to.items l.side l.numbering.half.items l.numbering.side.items l.numbering.origin.items;
  distinct : AreDistinct l.sides.from.items l.sides.to.items l.side;
  places : length l.chains.last.items ≡ l.fn.vertices;
  chained : AreChained (length l.chains.last.items) l.chains.starts.items l.numbering.origin.items l.chains.last.items l.chains.before.items;
}
