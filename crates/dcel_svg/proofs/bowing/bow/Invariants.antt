use Rattle.std.proofs.Common.{◌≡◌}
use Rattle.dcel_svg.proofs.bowing.bow.Given as goal

abbrev pub invariant-loop-number : goal.invariant-loop-number
invariant-loop-number g l = l.places.vertices.items ≡ l.fn.places.vertices.items
