use Rattle.std.proofs.Common.{◌↔◌, length}
use Rattle.dcel_maps.specs.theory.RingTests.{EdgeFits}
use Rattle.dcel_maps.specs.theory.RingTests.{EachOf}
use Rattle.spade_dcel.proofs.dcel.Dcel.lie_between.Given as goal

abbrev pub invariant-loop-edge : goal.invariant-loop-edge
invariant-loop-edge g l = EachOf (EdgeFits l.self.shape l.fn.faces) l.left ↔ EachOf (EdgeFits l.self.shape l.fn.faces) l.fn.edges

abbrev pub decreases-loop-edge : goal.decreases-loop-edge
decreases-loop-edge g l = length l.left
