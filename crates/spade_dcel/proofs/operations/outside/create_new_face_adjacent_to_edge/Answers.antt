use Rattle.dcel_maps.proofs.lists.Growing.{beside_listed}
use Rattle.dcel_edits.proofs.Public.{mesh-is-mesh}
use Rattle.dcel_edits.proofs.stored.Beside.{beside_can, beside_holds}
use Rattle.dcel_edits.proofs.stored.Changes.{held_mesh}
use Rattle.dcel_edits.proofs.stored.Holding.{holds, reserved_holds}
use Rattle.spade_dcel.proofs.operations.outside.create_new_face_adjacent_to_edge.Goals as goal

pub invariant_of-dcel : goal.invariant_of-dcel
invariant_of-dcel g c = (reserved_holds c.reserve.ensures.same c.dcel.invariant c.dcel.view_is).stored

pub returns-in_err-reserve-clause-mesh : goal.returns-in_err-reserve-clause-mesh
returns-in_err-reserve-clause-mesh g c = mesh-is-mesh _ _ (invariant_of-dcel g c)

pub put_beside-requires : goal.put_beside-requires
put_beside-requires g c =
    let held = reserved_holds c.reserve.ensures.same c.dcel.invariant c.dcel.view_is in
    beside_can held _ _ c.requires.live c.requires.unconnected c.requires.room c.in_ok-reserve.ensures.room

pub invariant_of-dcel-2 : goal.invariant_of-dcel-2
invariant_of-dcel-2 g c =
    let held = reserved_holds c.reserve.ensures.same c.dcel.invariant c.dcel.view_is in
    (beside_holds held _ _ c.requires.live c.requires.unconnected c.requires.room c.put_beside.ensures).stored

pub returns-clause-edit : goal.returns-clause-edit
returns-clause-edit g c =
    let held = reserved_holds c.reserve.ensures.same c.dcel.invariant c.dcel.view_is in
    (beside_holds held _ _ c.requires.live c.requires.unconnected c.requires.room c.put_beside.ensures).edit

pub returns-clause-edits : goal.returns-clause-edits
returns-clause-edits g c =
    beside_listed c.args.dcel.now (held_mesh _ _ _ (holds c.dcel.invariant c.dcel.view_is)) _ _ _ (returns-clause-edit g c) c.requires.live c.requires.unconnected c.requires.room

pub returns-clause-mesh : goal.returns-clause-mesh
returns-clause-mesh g c = mesh-is-mesh _ _ (invariant_of-dcel-2 g c)
