use Rattle.std.proofs.Common.{◌∙◌, length, ap, arith}
use Rattle.std.proofs.lemmas.Grind.{common_steps}
use Rattle.dcel_convenience.proofs.Removed.{can_remove, lacks_room, loop_told, no_room, room_is, round_is}
use Rattle.dcel_convenience.proofs.removing.remove_vertex.Goals as goal
use Rattle.dcel_maps.specs.Shapes.{Mesh, vertex_anchor}

pub take_out-requires-clause-inside : goal.take_out-requires-clause-inside
take_out-requires-clause-inside g c =
    loop_told c.args.dcel.now.shape c.in-Ok.border.items c.deref.result.now c.args.vertex c.deref.ensures.value (c.is_border_loop.ensures.0 c.if-not-is_border_loop.false)

pub returns-clause-can : goal.returns-clause-can
returns-clause-can g c =
    let m = c.args.dcel.now in
    let v = c.args.vertex in
    let anchor =
    c.in-Some-out_edge.ensures.anchor
    ∙ ap (λ (x : Mesh g.row.V.Denot g.row.DE.Denot g.row.UE.Denot g.row.F.Denot). vertex_anchor x c.in-Some.around.number) c.in-Some.ensures.mesh
    ∙ ap (vertex_anchor m) c.in-Some.ensures.number in
    can_remove m v c.in-Ok.border.items
    (round_is m c.in-Some-out_edge.first.dcel.now v c.in-Some-out_edge.first.number c.in-Ok.border.items c.in-Ok.ensures (c.in-Some-out_edge.ensures.mesh ∙ c.in-Some.ensures.mesh) anchor)
    (grind (arith, common_steps))
    (loop_told m.shape c.in-Ok.border.items c.deref.result.now v c.deref.ensures.value (c.is_border_loop.ensures.0 c.if-not-is_border_loop.false))
    (room_is m.shape c.filling.result.undirected_edges c.filling.result.faces c.filling.result.vertices c.len.result (length c.in-Ok.border.items)
    c.filling.ensures.vertices c.filling.ensures.edges c.filling.ensures.faces (omega (arith, c.len.ensures, c.in-Ok.border.ok.0))
    (c.has_room_for.ensures.0 c.if-not-has_room_for.false))

pub returns-then-not-has_room_for-clause-why : goal.returns-then-not-has_room_for-clause-why
returns-then-not-has_room_for-clause-why g c =
    let m = c.args.dcel.now in
    let v = c.args.vertex in
    let anchor =
    c.in-Some-out_edge.ensures.anchor
    ∙ ap (λ (x : Mesh g.row.V.Denot g.row.DE.Denot g.row.UE.Denot g.row.F.Denot). vertex_anchor x c.in-Some.around.number) c.in-Some.ensures.mesh
    ∙ ap (vertex_anchor m) c.in-Some.ensures.number in
    no_room m v c.in-Ok.border.items
    (round_is m c.in-Some-out_edge.first.dcel.now v c.in-Some-out_edge.first.number c.in-Ok.border.items c.in-Ok.ensures (c.in-Some-out_edge.ensures.mesh ∙ c.in-Some.ensures.mesh) anchor)
    (grind (arith, common_steps))
    (loop_told m.shape c.in-Ok.border.items c.deref.result.now v c.deref.ensures.value (c.is_border_loop.ensures.0 c.if-not-is_border_loop.false))
    (lacks_room m.shape c.filling.result.undirected_edges c.filling.result.faces c.filling.result.vertices c.len.result (length c.in-Ok.border.items)
    c.filling.ensures.vertices c.filling.ensures.edges c.filling.ensures.faces (omega (arith, c.len.ensures, c.in-Ok.border.ok.0))
    (λ room. absurd (let so = c.has_room_for.ensures.1 room in let not = c.if-not-has_room_for.true in cc)))
