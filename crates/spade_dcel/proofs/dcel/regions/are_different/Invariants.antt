use Rattle.std.proofs.Common.{◌↔◌, length}
use Rattle.dcel_maps.proofs.removal.RingLoops.{OnceEach}
use Rattle.spade_dcel.proofs.dcel.regions.are_different.Given as goal

abbrev pub invariant-loop-item : goal.invariant-loop-item
invariant-loop-item g l = OnceEach l.left ↔ OnceEach l.fn.items

abbrev pub decreases-loop-item : goal.decreases-loop-item
decreases-loop-item g l = length l.left
