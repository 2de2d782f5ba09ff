use Rattle.std.proofs.Common.{◌∙◌}
use Rattle.dcel_maps.proofs.lists.Growing.{close_listed}
use Rattle.dcel_edits.proofs.Public.{mesh-is-mesh}
use Rattle.dcel_edits.proofs.stored.Changes.{held_mesh}
use Rattle.dcel_edits.proofs.stored.Closing.{closing_answer, closing_can, closing_holds}
use Rattle.dcel_edits.proofs.stored.Holding.{holds, reserved_holds}
use Rattle.spade_dcel.proofs.operations.outside.create_single_face_between_edge_and_next.Goals as goal

pub invariant_of-dcel : goal.invariant_of-dcel
invariant_of-dcel g c = (reserved_holds c.reserve.ensures.same c.dcel.invariant c.dcel.view_is).stored

pub returns-in_err-reserve-clause-mesh : goal.returns-in_err-reserve-clause-mesh
returns-in_err-reserve-clause-mesh g c = mesh-is-mesh _ _ (invariant_of-dcel g c)

pub put_closing-requires : goal.put_closing-requires
put_closing-requires g c =
    let held = reserved_holds c.reserve.ensures.same c.dcel.invariant c.dcel.view_is in
    closing_can held _ c.requires.can_close c.requires.room c.in_ok-reserve.ensures.room

pub invariant_of-dcel-2 : goal.invariant_of-dcel-2
invariant_of-dcel-2 g c =
    let held = reserved_holds c.reserve.ensures.same c.dcel.invariant c.dcel.view_is in
    (closing_holds held _ c.requires.can_close c.requires.room c.put_closing.ensures.closed).stored

pub returns-clause-edit : goal.returns-clause-edit
returns-clause-edit g c =
    let held = reserved_holds c.reserve.ensures.same c.dcel.invariant c.dcel.view_is in
    (closing_holds held _ c.requires.can_close c.requires.room c.put_closing.ensures.closed).edit

pub returns-clause-answer : goal.returns-clause-answer
returns-clause-answer g c =
    let held = reserved_holds c.reserve.ensures.same c.dcel.invariant c.dcel.view_is in
    c.put_closing.ensures.answer ∙ closing_answer held _ c.requires.can_close c.requires.room

pub returns-clause-edits : goal.returns-clause-edits
returns-clause-edits g c =
    close_listed c.args.dcel.now (held_mesh _ _ _ (holds c.dcel.invariant c.dcel.view_is)) _ _ (returns-clause-edit g c) c.requires.can_close c.requires.room

pub returns-clause-mesh : goal.returns-clause-mesh
returns-clause-mesh g c = mesh-is-mesh _ _ (invariant_of-dcel-2 g c)
