use Rattle.dcel_maps.proofs.lists.Removing.{swap_listed}
use Rattle.dcel_edits.proofs.Public.{mesh-is-mesh}
use Rattle.dcel_edits.proofs.stored.Changes.{held_mesh}
use Rattle.dcel_edits.proofs.stored.Holding.{holds}
use Rattle.dcel_edits.proofs.stored.Renaming.{exchange_can, exchange_holds}
use Rattle.spade_dcel.proofs.dcel.Dcel.swap_vertices.Goals as goal

pub exchange_vertices-requires : goal.exchange_vertices-requires
exchange_vertices-requires g c = exchange_can (holds c.self.invariant c.self.view_is) _ _ c.requires.first_live c.requires.second_live

pub invariant_of-self : goal.invariant_of-self
invariant_of-self g c =
    let held = holds c.self.invariant c.self.view_is in
    (exchange_holds held _ _ c.requires.first_live c.requires.second_live c.exchange_vertices.ensures).stored

pub returns-clause-edit : goal.returns-clause-edit
returns-clause-edit g c =
    let held = holds c.self.invariant c.self.view_is in
    (exchange_holds held _ _ c.requires.first_live c.requires.second_live c.exchange_vertices.ensures).is

pub returns-clause-edits : goal.returns-clause-edits
returns-clause-edits g c =
    swap_listed c.args.self.now (held_mesh _ _ _ (holds c.self.invariant c.self.view_is)) _ _ _ (returns-clause-edit g c) c.requires.first_live c.requires.second_live

pub returns-clause-mesh : goal.returns-clause-mesh
returns-clause-mesh g c = mesh-is-mesh _ _ (invariant_of-self g c)
