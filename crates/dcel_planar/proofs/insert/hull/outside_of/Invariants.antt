use Rattle.std.proofs.Common.{length}
use Rattle.dcel_planar.proofs.Seeking.{IsSeeking}
use Rattle.dcel_planar.proofs.insert.hull.outside_of.Given as goal

abbrev pub invariant-loop-edge : goal.invariant-loop-edge
invariant-loop-edge g l = IsSeeking l.dcel l.fn.vertex l.edges.items

abbrev pub decreases-loop-edge : goal.decreases-loop-edge
decreases-loop-edge g l = length l.edges.items
