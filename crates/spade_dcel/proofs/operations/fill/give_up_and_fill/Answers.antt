use Rattle.std.proofs.Common.{◌-◌, length}
use Rattle.dcel_edits.proofs.Public.{mesh-is-mesh}
use Rattle.dcel_edits.proofs.stored.Changes.{HoldsAdded}
use Rattle.dcel_edits.proofs.stored.Holding.{reserved_holds}
use Rattle.dcel_edits.proofs.stored.Rings.{hole_can, hole_given_up, hole_holds}
use Rattle.dcel_edits.specs.Fill.{given_up}
use Rattle.dcel_maps.specs.edits.Fill.{border_filled}
use Rattle.dcel_maps.specs.Removals.{opened_with}
use Rattle.spade_dcel.proofs.operations.fill.give_up_and_fill.Goals as goal

pub invariant_of-dcel : goal.invariant_of-dcel
invariant_of-dcel g c = (reserved_holds c.reserve.ensures.same c.dcel.invariant c.dcel.view_is).stored

pub returns-in_err-reserve-clause-mesh : goal.returns-in_err-reserve-clause-mesh
returns-in_err-reserve-clause-mesh g c = mesh-is-mesh _ _ (invariant_of-dcel g c)

pub invariant_of-dcel-in_err-open : goal.invariant_of-dcel-in_err-open
invariant_of-dcel-in_err-open g c = rw c.in_err-open.ensures.refused (reserved_holds c.reserve.ensures.same c.dcel.invariant c.dcel.view_is).stored

pub returns-in_err-open-clause-mesh : goal.returns-in_err-open-clause-mesh
returns-in_err-open-clause-mesh g c = mesh-is-mesh _ _ (invariant_of-dcel-in_err-open g c)

pub put_ears-requires : goal.put_ears-requires
put_ears-requires g c =
    let held = reserved_holds c.reserve.ensures.same c.dcel.invariant c.dcel.view_is in
    hole_can held c.requires.closed c.in-Some.field-0-0.now c.in-Some-split_last.field-0-0.now c.in-Some-split_last-2.field-0-0.now
    c.in-Some-split_last-2.left.now c.in-Some-split_last.others.now c.in-Some.others.now c.args.border.now c.args.edges.now c.args.faces.now c.args.vertex.now c.requires.inside
    c.in-Some.ensures.cases.0 c.in-Some-split_last.ensures.cases.0 c.in-Some-split_last-2.ensures.cases.0 c.requires.room c.in_ok-reserve.ensures.room

pub drop_all_anchors-requires : goal.drop_all_anchors-requires
drop_all_anchors-requires g c =
    let held = reserved_holds c.reserve.ensures.same c.dcel.invariant c.dcel.view_is in
    hole_given_up held c.requires.closed c.in-Some.field-0-0.now c.in-Some-split_last.field-0-0.now c.in-Some-split_last-2.field-0-0.now
    c.in-Some-split_last-2.left.now c.in-Some-split_last.others.now c.in-Some.others.now c.args.border.now c.args.edges.now c.args.faces.now c.args.vertex.now c.requires.inside
    c.in-Some.ensures.cases.0 c.in-Some-split_last.ensures.cases.0 c.in-Some-split_last-2.ensures.cases.0 c.requires.room
    g.DE.Default.is_default g.UE.Default.is_default g.F.Default.is_default _ c.put_ears.ensures

-- the hole is filled
filled : (g : _) (c : goal.After-drop_all_anchors g)
    → HoldsAdded g.DE.Default.is_default g.UE.Default.is_default g.F.Default.is_default (length c.args.border.now - 3) (length c.args.border.now - 2)
    (given_up c.put_ears.new.store c.args.vertex.now c.args.faces.now) (opened_with c.args.edges.now c.args.faces.now c.args.vertex.now)
    (border_filled c.args.dcel.now (opened_with c.args.edges.now c.args.faces.now c.args.vertex.now) c.args.border.now)
filled g c =
    let held = reserved_holds c.reserve.ensures.same c.dcel.invariant c.dcel.view_is in
    hole_holds held c.requires.closed c.in-Some.field-0-0.now c.in-Some-split_last.field-0-0.now c.in-Some-split_last-2.field-0-0.now
    c.in-Some-split_last-2.left.now c.in-Some-split_last.others.now c.in-Some.others.now c.args.border.now c.args.edges.now c.args.faces.now c.args.vertex.now c.requires.inside
    c.in-Some.ensures.cases.0 c.in-Some-split_last.ensures.cases.0 c.in-Some-split_last-2.ensures.cases.0 c.requires.room
    g.DE.Default.is_default g.UE.Default.is_default g.F.Default.is_default _ c.put_ears.ensures

pub invariant_of-dcel-2 : goal.invariant_of-dcel-2
invariant_of-dcel-2 g c = rw (c.drop_all_anchors.ensures, c.in_ok-open.ensures.opened) (filled g c).stored

pub returns-clause-edit : goal.returns-clause-edit
returns-clause-edit g c = rw (c.drop_all_anchors.ensures, c.in_ok-open.ensures.opened) (filled g c).edit

pub returns-clause-mesh : goal.returns-clause-mesh
returns-clause-mesh g c = mesh-is-mesh _ _ (invariant_of-dcel-2 g c)
