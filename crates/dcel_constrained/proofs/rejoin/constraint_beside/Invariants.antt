use Rattle.std.proofs.Common.{length}
use Rattle.dcel_planar.proofs.Searching.{IsSearching}
use Rattle.dcel_constrained.specs.Rejoining.{LeadsPast}
use Rattle.dcel_constrained.proofs.rejoin.constraint_beside.Given as goal

abbrev pub invariant-loop-edge : goal.invariant-loop-edge
invariant-loop-edge g l = IsSearching (LeadsPast l.dcel l.fn.first l.fn.second) l.dcel l.fn.vertex l.edges.items

abbrev pub decreases-loop-edge : goal.decreases-loop-edge
decreases-loop-edge g l = length l.edges.items
