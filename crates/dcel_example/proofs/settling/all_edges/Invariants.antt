use Rattle.std.proofs.Common.{ℕ, ◌<◌}
use Rattle.dcel_maps.specs.Words.{count_of}
use Rattle.dcel_example.proofs.settling.all_edges.Given as goal

-- the edges so far are in the list
abbrev pub invariant-loop-index : goal.invariant-loop-index
invariant-loop-index g l = (u : ℕ) → u < l.index → 0 < count_of u l.list.items
