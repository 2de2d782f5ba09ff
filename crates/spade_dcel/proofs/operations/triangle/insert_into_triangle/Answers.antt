use Rattle.dcel_maps.proofs.lists.Growing.{insert_listed}
use Rattle.dcel_edits.proofs.Public.{mesh-is-mesh}
use Rattle.dcel_edits.proofs.stored.Changes.{held_mesh}
use Rattle.dcel_edits.proofs.stored.Holding.{holds, reserved_holds}
use Rattle.dcel_edits.proofs.stored.Inserting.{insert_can, inserted_holds}
use Rattle.spade_dcel.proofs.operations.triangle.insert_into_triangle.Goals as goal

pub invariant_of-dcel : goal.invariant_of-dcel
invariant_of-dcel g c = (reserved_holds c.reserve.ensures.same c.dcel.invariant c.dcel.view_is).stored

pub returns-in_err-reserve-clause-mesh : goal.returns-in_err-reserve-clause-mesh
returns-in_err-reserve-clause-mesh g c = mesh-is-mesh _ _ (invariant_of-dcel g c)

pub put_insertion-requires : goal.put_insertion-requires
put_insertion-requires g c =
    let held = reserved_holds c.reserve.ensures.same c.dcel.invariant c.dcel.view_is in
    let some = rw (c.face_anchor.ensures, c.adjust_inner_outer.ensures) at c.in-Some.is in
    insert_can held _ _ _ c.requires.triangle c.requires.unconnected c.requires.room some c.in_ok-reserve.ensures.room

pub invariant_of-dcel-2 : goal.invariant_of-dcel-2
invariant_of-dcel-2 g c =
    let held = reserved_holds c.reserve.ensures.same c.dcel.invariant c.dcel.view_is in
    let some = rw (c.face_anchor.ensures, c.adjust_inner_outer.ensures) at c.in-Some.is in
    (inserted_holds held _ _ _ c.requires.triangle c.requires.unconnected c.requires.room some c.put_insertion.ensures).stored

pub returns-clause-edit : goal.returns-clause-edit
returns-clause-edit g c =
    let held = reserved_holds c.reserve.ensures.same c.dcel.invariant c.dcel.view_is in
    let some = rw (c.face_anchor.ensures, c.adjust_inner_outer.ensures) at c.in-Some.is in
    (inserted_holds held _ _ _ c.requires.triangle c.requires.unconnected c.requires.room some c.put_insertion.ensures).edit

pub returns-clause-edits : goal.returns-clause-edits
returns-clause-edits g c =
    insert_listed c.args.dcel.now (held_mesh _ _ _ (holds c.dcel.invariant c.dcel.view_is)) _ _ _ (returns-clause-edit g c) c.requires.triangle c.requires.unconnected c.requires.room

pub returns-clause-mesh : goal.returns-clause-mesh
returns-clause-mesh g c = mesh-is-mesh _ _ (invariant_of-dcel-2 g c)
