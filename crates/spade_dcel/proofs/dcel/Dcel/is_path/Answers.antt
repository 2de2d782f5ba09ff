use Rattle.std.proofs.Common.{below_more}
use Rattle.spade_dcel.proofs.dcel.Dcel.is_path.Goals as goal

pub loop-index-preserved : goal.loop-index-preserved
loop-index-preserved g c =
    below_more _ _ c.loop-index.invariant (rw c.new.ensures at (c.has_few_out_edges.ensures.0 c.if-not-has_few_out_edges.false))
