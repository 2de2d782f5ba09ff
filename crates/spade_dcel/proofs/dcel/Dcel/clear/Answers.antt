use Rattle.dcel_maps.proofs.lists.Beginning.{clear_listed}
use Rattle.dcel_edits.proofs.Public.{mesh-is-mesh}
use Rattle.dcel_edits.proofs.stored.Whole.{clear_holds}
use Rattle.spade_dcel.proofs.dcel.Dcel.clear.Goals as goal

pub invariant_of-self : goal.invariant_of-self
invariant_of-self g c = rw (c.close.ensures, c.clear.ensures) (clear_holds record { stored = c.self.invariant; is = c.self.view_is }).stored

pub returns-clause-edit : goal.returns-clause-edit
returns-clause-edit g c = rw (c.close.ensures, c.clear.ensures) (clear_holds record { stored = c.self.invariant; is = c.self.view_is }).is

pub returns-clause-edits : goal.returns-clause-edits
returns-clause-edits g c =
    clear_listed c.args.self.now _ (returns-clause-edit g c)

pub returns-clause-mesh : goal.returns-clause-mesh
returns-clause-mesh g c = mesh-is-mesh _ _ (invariant_of-self g c)
