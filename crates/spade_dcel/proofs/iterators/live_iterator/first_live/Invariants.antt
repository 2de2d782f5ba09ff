use Rattle.std.proofs.Common.{◌≡◌, length}
use Rattle.spade_dcel.specs.Live.{live_ones}
use Rattle.spade_dcel.proofs.iterators.live_iterator.first_live.Given as goal

-- what was passed over isn't live
abbrev pub invariant-loop-element : goal.invariant-loop-element
invariant-loop-element g l = live_ones g.Kind.DelaunayElementType.kind l.initial.elements ≡ live_ones g.Kind.DelaunayElementType.kind l.elements

abbrev pub decreases-loop-element : goal.decreases-loop-element
decreases-loop-element g l = length l.elements
