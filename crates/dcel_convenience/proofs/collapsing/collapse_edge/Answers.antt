use Rattle.std.proofs.Common.{refl, subst}
use Rattle.dcel_convenience.specs.Removing.{Returns}
use Rattle.dcel_convenience.proofs.Collapsed.{border_at, border_is_loop, room_for, taken_at}
use Rattle.dcel_convenience.proofs.StaysSimple.{stays_simple}
use Rattle.dcel_convenience.proofs.collapsing.collapse_edge.Goals as goal

pub take_out-requires-clause-inside : goal.take_out-requires-clause-inside
take_out-requires-clause-inside g c =
    let m = c.args.dcel.now in
    let h = c.args.half in
    let is = border_at m c.directed_edge.result.dcel.now h c.directed_edge.result.number c.in-Ok.border.items c.in-Ok.ensures c.directed_edge.ensures.mesh c.directed_edge.ensures.number in
    rw (is, c.start_of-vertex.ensures.start) (border_is_loop m c.every_mesh.ensures h (c.in_default.ensures.can refl).disc)

pub take_out-requires-clause-room : goal.take_out-requires-clause-room
take_out-requires-clause-room g c =
    let m = c.args.dcel.now in
    let h = c.args.half in
    let is = border_at m c.directed_edge.result.dcel.now h c.directed_edge.result.number c.in-Ok.border.items c.in-Ok.ensures c.directed_edge.ensures.mesh c.directed_edge.ensures.number in
    room_for m.shape h c.in-Ok.border.items is (c.has_room_to_collapse.ensures.0 c.if-not-has_room_to_collapse.false)

pub returns-clause-edit : goal.returns-clause-edit
returns-clause-edit g c =
    let m = c.args.dcel.now in
    let h = c.args.half in
    let is = border_at m c.directed_edge.result.dcel.now h c.directed_edge.result.number c.in-Ok.border.items c.in-Ok.ensures c.directed_edge.ensures.mesh c.directed_edge.ensures.number in
    taken_at g.DE.Default.is_default g.UE.Default.is_default g.F.Default.is_default m c.take_out.new.dcel h c.start_of-vertex.result c.in-Ok.border.items is c.start_of-vertex.ensures.start
    c.in-Ok-take_out.ensures.edit

pub returns-clause-simple : goal.returns-clause-simple
returns-clause-simple g c =
    let m = c.args.dcel.now in
    let h = c.args.half in
    let is = border_at m c.directed_edge.result.dcel.now h c.directed_edge.result.number c.in-Ok.border.items c.in-Ok.ensures c.directed_edge.ensures.mesh c.directed_edge.ensures.number in
    stays_simple g.DE.Default.is_default g.UE.Default.is_default g.F.Default.is_default m c.take_out.new.dcel c.every_mesh.ensures h (c.in_default.ensures.can refl)
    (c.has_room_to_collapse.ensures.0 c.if-not-has_room_to_collapse.false)
    (taken_at g.DE.Default.is_default g.UE.Default.is_default g.F.Default.is_default m c.take_out.new.dcel h c.start_of-vertex.result c.in-Ok.border.items is c.start_of-vertex.ensures.start
    c.in-Ok-take_out.ensures.edit)

pub returns-clause-returned : goal.returns-clause-returned
returns-clause-returned g c = subst (λ v. Returns c.args.dcel.now v c.in-Ok-take_out.taken) c.start_of-vertex.ensures.start c.in-Ok-take_out.ensures.returned
