use Rattle.std.proofs.Common.{length, vec_capacity, vec_len}
use Rattle.dcel_delaunay.proofs.Around.{IsListingSpokes}
use Rattle.dcel_delaunay.proofs.remove.around.list_spokes.Given as goal

abbrev pub invariant-loop-spoke : goal.invariant-loop-spoke
invariant-loop-spoke g l = IsListingSpokes l.dcel l.fn.vertex l.spokes.items l.fn.due.items l.due.items (vec_len l.due) (vec_capacity l.due)

abbrev pub decreases-loop-spoke : goal.decreases-loop-spoke
decreases-loop-spoke g l = length l.spokes.items
