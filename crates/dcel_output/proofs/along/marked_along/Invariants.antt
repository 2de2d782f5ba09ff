use Rattle.std.proofs.Common.{length}
use Rattle.dcel_planar.proofs.Searching.{IsSearching}
use Rattle.dcel_output.specs.Outlining.{LeadsMarked}
use Rattle.dcel_output.proofs.along.marked_along.Given as goal

abbrev pub invariant-loop-edge : goal.invariant-loop-edge
invariant-loop-edge g l = IsSearching (LeadsMarked l.mesh l.from l.to) l.mesh l.from l.edges.items

abbrev pub decreases-loop-edge : goal.decreases-loop-edge
decreases-loop-edge g l = length l.edges.items
