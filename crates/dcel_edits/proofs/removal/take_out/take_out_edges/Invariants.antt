use Rattle.dcel_edits.specs.TakingOut.{CanLoseEdge, edge_out}
use Rattle.dcel_edits.proofs.Descending.{Descends}
use Rattle.dcel_edits.proofs.removal.take_out.take_out_edges.Given as goal

abbrev pub invariant-loop-left : goal.invariant-loop-left
invariant-loop-left g l = Descends edge_out CanLoseEdge l.fn.store l.fn.edges l.store l.left

abbrev pub decreases-loop-left : goal.decreases-loop-left
decreases-loop-left g l = l.left
