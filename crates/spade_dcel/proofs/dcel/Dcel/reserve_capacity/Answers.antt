use Rattle.dcel_edits.proofs.stored.Holding.{reserved_holds}
use Rattle.spade_dcel.proofs.dcel.Dcel.reserve_capacity.Goals as goal

pub invariant_of-self : goal.invariant_of-self
invariant_of-self g c = (reserved_holds c.reserve.ensures.same c.self.invariant c.self.view_is).stored
