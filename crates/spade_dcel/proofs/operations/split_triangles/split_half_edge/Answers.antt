use Rattle.dcel_maps.proofs.lists.Growing.{half_listed}
use Rattle.dcel_edits.proofs.Public.{mesh-is-mesh}
use Rattle.dcel_edits.proofs.stored.Changes.{held_mesh}
use Rattle.dcel_edits.proofs.stored.Holding.{holds, reserved_holds}
use Rattle.dcel_edits.proofs.stored.SplittingTriangles.{split_can, split_one}
use Rattle.spade_dcel.proofs.operations.split_triangles.split_half_edge.Goals as goal

pub invariant_of-dcel : goal.invariant_of-dcel
invariant_of-dcel g c = (reserved_holds c.reserve.ensures.same c.dcel.invariant c.dcel.view_is).stored

pub returns-in_err-reserve-clause-mesh : goal.returns-in_err-reserve-clause-mesh
returns-in_err-reserve-clause-mesh g c = mesh-is-mesh _ _ (invariant_of-dcel g c)

pub put_middle_of_one-second_half-requires : goal.put_middle_of_one-second_half-requires
put_middle_of_one-second_half-requires g c =
    let held = reserved_holds c.reserve.ensures.same c.dcel.invariant c.dcel.view_is in
    split_can held _ _ c.requires.live c.requires.unconnected c.requires.room c.in_ok-reserve.ensures.room

pub invariant_of-dcel-2 : goal.invariant_of-dcel-2
invariant_of-dcel-2 g c =
    let held = reserved_holds c.reserve.ensures.same c.dcel.invariant c.dcel.view_is in
    let stored = c.put_middle_of_one-second_half.ensures.stored in
    (split_one held _ _ c.requires.live c.requires.unconnected c.requires.triangle c.requires.room stored).stored

pub returns-clause-edit : goal.returns-clause-edit
returns-clause-edit g c =
    let held = reserved_holds c.reserve.ensures.same c.dcel.invariant c.dcel.view_is in
    let stored = c.put_middle_of_one-second_half.ensures.stored in
    (split_one held _ _ c.requires.live c.requires.unconnected c.requires.triangle c.requires.room stored).edit

pub returns-clause-edits : goal.returns-clause-edits
returns-clause-edits g c =
    half_listed c.args.dcel.now (held_mesh _ _ _ (holds c.dcel.invariant c.dcel.view_is)) _ _ _ (returns-clause-edit g c) c.requires.live c.requires.triangle c.requires.unconnected c.requires.room

pub returns-clause-mesh : goal.returns-clause-mesh
returns-clause-mesh g c = mesh-is-mesh _ _ (invariant_of-dcel-2 g c)
