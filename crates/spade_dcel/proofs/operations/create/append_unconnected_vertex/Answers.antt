use Rattle.dcel_maps.proofs.lists.Growing.{append_listed}
use Rattle.dcel_edits.proofs.Public.{mesh-is-mesh}
use Rattle.dcel_edits.proofs.stored.Changes.{held_mesh}
use Rattle.dcel_edits.proofs.stored.Creating.{append_holds}
use Rattle.dcel_edits.proofs.stored.Holding.{holds, reserved_holds}
use Rattle.spade_dcel.proofs.operations.create.append_unconnected_vertex.Goals as goal

pub invariant_of-dcel : goal.invariant_of-dcel
invariant_of-dcel g c = (reserved_holds c.reserve.ensures.same c.dcel.invariant c.dcel.view_is).stored

pub returns-then-is_err-clause-mesh : goal.returns-then-is_err-clause-mesh
returns-then-is_err-clause-mesh g c = mesh-is-mesh _ _ (invariant_of-dcel g c)

pub invariant_of-dcel-2 : goal.invariant_of-dcel-2
invariant_of-dcel-2 g c =
    let held = reserved_holds c.reserve.ensures.same c.dcel.invariant c.dcel.view_is in
    rw c.push_vertex.ensures (append_holds held c.requires c.args.datum).stored

pub returns-clause-edit : goal.returns-clause-edit
returns-clause-edit g c =
    let held = reserved_holds c.reserve.ensures.same c.dcel.invariant c.dcel.view_is in
    rw c.push_vertex.ensures (append_holds held c.requires c.args.datum).is

pub returns-clause-edits : goal.returns-clause-edits
returns-clause-edits g c =
    append_listed c.args.dcel.now (held_mesh _ _ _ (holds c.dcel.invariant c.dcel.view_is)) c.args.datum _ (returns-clause-edit g c) c.requires

pub returns-clause-mesh : goal.returns-clause-mesh
returns-clause-mesh g c = mesh-is-mesh _ _ (invariant_of-dcel-2 g c)
