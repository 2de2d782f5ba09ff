use Rattle.std.proofs.Common.{length}
use Rattle.dcel_maps.specs.Shapes.{origin_of}
use Rattle.dcel_maps.proofs.removal.RingLoops.{IsAlong}
use Rattle.spade_dcel.proofs.dcel.Dcel.leads_along.Given as goal

abbrev pub invariant-loop-following : goal.invariant-loop-following
invariant-loop-following g l = IsAlong l.self.shape l.fn.edges (origin_of l.self.shape l.fn.first) l.fn.first l.fn.first l.fn.others l.half l.left

abbrev pub decreases-loop-following : goal.decreases-loop-following
decreases-loop-following g l = length l.left
