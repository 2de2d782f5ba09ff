use Rattle.dcel_edits.proofs.stored.Data.{vertex_updated_holds}
use Rattle.spade_dcel.proofs.dcel.Dcel.vertex_data_mut.Goals as goal

pub invariant_of-self-lent : goal.invariant_of-self-lent
invariant_of-self-lent g c = λ w. (vertex_updated_holds c.self.invariant c.self.view_is _ w).stored
