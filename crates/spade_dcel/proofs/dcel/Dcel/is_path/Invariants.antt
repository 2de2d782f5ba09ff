use Rattle.std.proofs.Common.{ℕ, ◌<◌}
use Rattle.dcel_maps.specs.Degenerate.{HasFewOutEdges}
use Rattle.spade_dcel.proofs.dcel.Dcel.is_path.Given as goal

abbrev pub invariant-loop-index : goal.invariant-loop-index
invariant-loop-index g l = (v : ℕ) → v < l.index → HasFewOutEdges l.self.shape v
