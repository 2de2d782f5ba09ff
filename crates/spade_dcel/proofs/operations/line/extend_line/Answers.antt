use Rattle.std.proofs.Common.{sym}
use Rattle.dcel_maps.proofs.lists.Growing.{extend_listed}
use Rattle.dcel_edits.proofs.Public.{mesh-is-mesh}
use Rattle.dcel_edits.proofs.stored.Changes.{held_mesh}
use Rattle.dcel_edits.proofs.stored.Holding.{holds, reserved_holds}
use Rattle.dcel_edits.proofs.stored.Lines.{extend_anchored, extend_can, extended}
use Rattle.spade_dcel.proofs.operations.line.extend_line.Goals as goal

pub invariant_of-dcel : goal.invariant_of-dcel
invariant_of-dcel g c = (reserved_holds c.reserve.ensures.same c.dcel.invariant c.dcel.view_is).stored

pub returns-in_err-reserve-clause-mesh : goal.returns-in_err-reserve-clause-mesh
returns-in_err-reserve-clause-mesh g c = mesh-is-mesh _ _ (invariant_of-dcel g c)

pub unreachable-requires : goal.unreachable-requires
unreachable-requires g c = extend_anchored (reserved_holds c.reserve.ensures.same c.dcel.invariant c.dcel.view_is) _ c.requires.line_end (sym c.in-None.ensures)

pub put_spur-requires : goal.put_spur-requires
put_spur-requires g c =
    let held = reserved_holds c.reserve.ensures.same c.dcel.invariant c.dcel.view_is in
    rw c.rev.ensures (extend_can held _ _ c.requires.line_end c.requires.unconnected c.requires.room _ (sym c.in-Some.ensures) c.in_ok-reserve.ensures.room.for_edges)

pub invariant_of-dcel-2 : goal.invariant_of-dcel-2
invariant_of-dcel-2 g c =
    let held = reserved_holds c.reserve.ensures.same c.dcel.invariant c.dcel.view_is in
    (extended held _ _ c.requires.line_end c.requires.unconnected c.requires.room _ (sym c.in-Some.ensures) (rw c.rev.ensures at c.put_spur.ensures)).stored

pub returns-clause-edit : goal.returns-clause-edit
returns-clause-edit g c =
    let held = reserved_holds c.reserve.ensures.same c.dcel.invariant c.dcel.view_is in
    (extended held _ _ c.requires.line_end c.requires.unconnected c.requires.room _ (sym c.in-Some.ensures) (rw c.rev.ensures at c.put_spur.ensures)).edit

pub returns-clause-edits : goal.returns-clause-edits
returns-clause-edits g c =
    extend_listed c.args.dcel.now (held_mesh _ _ _ (holds c.dcel.invariant c.dcel.view_is)) _ _ _ (returns-clause-edit g c) c.requires.line_end c.requires.unconnected c.requires.room

pub returns-clause-mesh : goal.returns-clause-mesh
returns-clause-mesh g c = mesh-is-mesh _ _ (invariant_of-dcel-2 g c)
