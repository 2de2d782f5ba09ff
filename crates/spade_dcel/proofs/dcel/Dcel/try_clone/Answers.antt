use Rattle.std.proofs.Common.{ap}
use Rattle.dcel_maps.proofs.edits.Whole.{clone-same}
use Rattle.dcel_maps.proofs.lists.Made.{stays_listed}
use Rattle.dcel_edits.proofs.Public.{mesh-is-mesh}
use Rattle.dcel_edits.proofs.stored.Whole.{cloned}
use Rattle.spade_dcel.proofs.dcel.Dcel.try_clone.Goals as goal

pub invariant_of-result : goal.invariant_of-result
invariant_of-result g c = rw c.in_ok-removal.ensures (cloned record { stored = c.self.invariant; is = c.self.view_is } c.in_ok-store.ensures).0

pub returns-clause-clone : goal.returns-clause-clone
returns-clause-clone g c = rw c.in_ok-removal.ensures (cloned record { stored = c.self.invariant; is = c.self.view_is } c.in_ok-store.ensures).1

pub returns-clause-equal : goal.returns-clause-equal
returns-clause-equal g c = clone-same _ _ (returns-clause-clone g c)

pub returns-clause-edits : goal.returns-clause-edits
returns-clause-edits g c =
    stays_listed _ _ (ap (λ m. m.shape) (returns-clause-clone g c).same)

pub returns-clause-mesh : goal.returns-clause-mesh
returns-clause-mesh g c = mesh-is-mesh _ _ (invariant_of-result g c)
