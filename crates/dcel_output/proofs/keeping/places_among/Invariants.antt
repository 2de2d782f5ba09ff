use Rattle.std.proofs.Common.{◌≡◌, ◌++◌, length}
use Rattle.dcel_output.specs.Keeping.{places_among}
use Rattle.dcel_output.proofs.keeping.places_among.Given as goal

abbrev pub invariant-loop-flag : goal.invariant-loop-flag
invariant-loop-flag g l = l.places.items ++ places_among l.number l.left ≡ places_among 0 l.flags

abbrev pub decreases-loop-flag : goal.decreases-loop-flag
decreases-loop-flag g l = length l.left
