use Rattle.std.proofs.Common.{map}
use Rattle.dcel_exchange.proofs.Rows.{SoFar}
use Rattle.dcel_exchange.proofs.sides.list_sides.Given as goal

abbrev pub invariant-loop-index : goal.invariant-loop-index
invariant-loop-index g l = SoFar (map g.S.AsSlice.items l.faces) l.index l.sides.from.items l.sides.to.items l.sides.face.items l.sides.after.items
