use Rattle.dcel_store.proofs.Lengths.{lengths_agree}
use Rattle.dcel_store.proofs.Store.num_edges.Goals as goal

pub returns-clause-lengths : goal.returns-clause-lengths
returns-clause-lengths g c = rw (← c.self.view_is) (lengths_agree c.self.inside c.self.invariant)
