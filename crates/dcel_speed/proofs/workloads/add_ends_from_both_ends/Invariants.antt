use Rattle.std.proofs.Common.{ℕ, length}
use Rattle.dcel_speed.proofs.workloads.add_ends_from_both_ends.Given as goal

abbrev pub decreases-loop-edge : goal.decreases-loop-edge
decreases-loop-edge g l = length l.edges.items
