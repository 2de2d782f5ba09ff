use Rattle.dcel_maps.proofs.lists.Growing.{on_line_listed}
use Rattle.dcel_edits.proofs.Public.{mesh-is-mesh}
use Rattle.dcel_edits.proofs.stored.Changes.{held_mesh}
use Rattle.dcel_edits.proofs.stored.Holding.{holds, reserved_holds}
use Rattle.dcel_edits.proofs.stored.Splits.{split, split_can}
use Rattle.spade_dcel.proofs.operations.split.split_edge_when_all_vertices_on_line.Goals as goal

pub invariant_of-dcel : goal.invariant_of-dcel
invariant_of-dcel g c = (reserved_holds c.reserve.ensures.same c.dcel.invariant c.dcel.view_is).stored

pub returns-in_err-reserve-clause-mesh : goal.returns-in_err-reserve-clause-mesh
returns-in_err-reserve-clause-mesh g c = mesh-is-mesh _ _ (invariant_of-dcel g c)

pub put_middle-new_edge-requires : goal.put_middle-new_edge-requires
put_middle-new_edge-requires g c =
    let held = reserved_holds c.reserve.ensures.same c.dcel.invariant c.dcel.view_is in
    split_can held _ _ c.requires.bridge c.requires.unconnected c.requires.room c.in_ok-reserve.ensures.room.for_edges

pub invariant_of-dcel-2 : goal.invariant_of-dcel-2
invariant_of-dcel-2 g c =
    let held = reserved_holds c.reserve.ensures.same c.dcel.invariant c.dcel.view_is in
    (split held _ _ c.requires.bridge c.requires.unconnected c.requires.room c.put_middle-new_edge.ensures.stored).stored

pub returns-clause-edit : goal.returns-clause-edit
returns-clause-edit g c =
    let held = reserved_holds c.reserve.ensures.same c.dcel.invariant c.dcel.view_is in
    (split held _ _ c.requires.bridge c.requires.unconnected c.requires.room c.put_middle-new_edge.ensures.stored).edit

pub returns-clause-edits : goal.returns-clause-edits
returns-clause-edits g c =
    on_line_listed c.args.dcel.now (held_mesh _ _ _ (holds c.dcel.invariant c.dcel.view_is)) _ _ _ (returns-clause-edit g c) c.requires.bridge c.requires.unconnected c.requires.room

pub returns-clause-mesh : goal.returns-clause-mesh
returns-clause-mesh g c = mesh-is-mesh _ _ (invariant_of-dcel-2 g c)
