use Rattle.dcel_maps.proofs.lists.Growing.{setup_listed}
use Rattle.dcel_edits.proofs.Public.{mesh-is-mesh}
use Rattle.dcel_edits.proofs.stored.Changes.{held_mesh}
use Rattle.dcel_edits.proofs.stored.Creating.{begin_can, begun}
use Rattle.dcel_edits.proofs.stored.Holding.{holds, reserved_holds}
use Rattle.spade_dcel.proofs.operations.create.setup_initial_two_vertices.Goals as goal

pub invariant_of-dcel : goal.invariant_of-dcel
invariant_of-dcel g c = (reserved_holds c.reserve.ensures.same c.dcel.invariant c.dcel.view_is).stored

pub returns-in_err-reserve-clause-mesh : goal.returns-in_err-reserve-clause-mesh
returns-in_err-reserve-clause-mesh g c = mesh-is-mesh _ _ (invariant_of-dcel g c)

pub put_first_edge-requires : goal.put_first_edge-requires
put_first_edge-requires g c = begin_can (reserved_holds c.reserve.ensures.same c.dcel.invariant c.dcel.view_is) _ _ c.requires.first_live c.requires.second_live c.in_ok-reserve.ensures.room.for_edges

pub invariant_of-dcel-2 : goal.invariant_of-dcel-2
invariant_of-dcel-2 g c =
    let held = reserved_holds c.reserve.ensures.same c.dcel.invariant c.dcel.view_is in
    let q = c.requires in
    (begun held _ _ q.no_edge q.first_live q.second_live q.apart q.room c.put_first_edge.ensures).stored

pub returns-clause-edit : goal.returns-clause-edit
returns-clause-edit g c =
    let held = reserved_holds c.reserve.ensures.same c.dcel.invariant c.dcel.view_is in
    let q = c.requires in
    (begun held _ _ q.no_edge q.first_live q.second_live q.apart q.room c.put_first_edge.ensures).edit

pub returns-clause-edits : goal.returns-clause-edits
returns-clause-edits g c =
    setup_listed c.args.dcel.now (held_mesh _ _ _ (holds c.dcel.invariant c.dcel.view_is)) _ _ _ (returns-clause-edit g c) c.requires.no_edge c.requires.first_live c.requires.second_live c.requires.apart c.requires.room

pub returns-clause-mesh : goal.returns-clause-mesh
returns-clause-mesh g c = mesh-is-mesh _ _ (invariant_of-dcel-2 g c)
