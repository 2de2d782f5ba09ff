use Rattle.dcel_edits.proofs.Descending.{descent_begins}
use Rattle.dcel_edits.proofs.removal.take_out.take_out_edges.Goals as goal

pub loop-left-init : goal.loop-left-init
loop-left-init g c = descent_begins _ _ _ _ c.requires
