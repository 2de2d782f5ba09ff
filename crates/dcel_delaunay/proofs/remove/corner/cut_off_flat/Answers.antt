use Rattle.std.proofs.Common.{◌≡◌, ◌/◌, refl}
use Rattle.dcel_maps.specs.Walking.{ccw_of}
use Rattle.dcel_planar.proofs.Whole.{on_err}
use Rattle.dcel_delaunay.proofs.CutOff.{back_first, back_hull, back_second, back_sound, back_staying, back_third, can_flip, mid_around, mid_gone}
use Rattle.dcel_delaunay.proofs.remove.corner.cut_off_flat.Goals as goal

pub flip_cw-requires : goal.flip_cw-requires
flip_cw-requires g c =
    rw (c.as_undirected-middle.ensures, c.fix.ensures.value, c.ccw-2.ensures.number, c.ccw.ensures.mesh, c.ccw.ensures.number, c.directed_edge.ensures.mesh, c.directed_edge.ensures.number)
    (can_flip g.UE.EdgeConstraint.is_constraint c.args.dcel.now c.every_mesh.ensures c.args.due.now.items c.requires.sound c.args.vertex c.args.outside c.requires.corner c.requires.flat)

pub cut_strip-requires-clause-around : goal.cut_strip-requires-clause-around
cut_strip-requires-clause-around g c =
    let m = c.args.dcel.now in
    let edge : c.as_undirected-middle.result ≡ ccw_of m.shape (ccw_of m.shape c.args.outside) / 2 =
    rw (c.as_undirected-middle.ensures, c.fix.ensures.value, c.ccw-2.ensures.number, c.ccw.ensures.mesh, c.ccw.ensures.number, c.directed_edge.ensures.mesh, c.directed_edge.ensures.number)
    refl in
    mid_around g.UE.EdgeConstraint.is_constraint m c.every_mesh.ensures c.args.due.now.items c.requires.sound c.args.vertex c.args.outside c.requires.corner c.requires.flat c.flip_cw.new.dcel c.as_undirected-middle.result edge c.flip_cw.ensures.edit

pub turn_back-requires-clause-first : goal.turn_back-requires-clause-first
turn_back-requires-clause-first g c =
    let m = c.args.dcel.now in
    let edge : c.as_undirected-middle.result ≡ ccw_of m.shape (ccw_of m.shape c.args.outside) / 2 =
    rw (c.as_undirected-middle.ensures, c.fix.ensures.value, c.ccw-2.ensures.number, c.ccw.ensures.mesh, c.ccw.ensures.number, c.directed_edge.ensures.mesh, c.directed_edge.ensures.number)
    refl in
    back_first g.UE.EdgeConstraint.is_constraint m c.every_mesh.ensures c.args.due.now.items c.requires.sound c.args.vertex c.args.outside c.requires.corner c.requires.flat c.flip_cw.new.dcel c.as_undirected-middle.result edge c.flip_cw.ensures.edit c.cut_strip.new.dcel c.in_default.ensures.refused

pub turn_back-requires-clause-second : goal.turn_back-requires-clause-second
turn_back-requires-clause-second g c =
    let m = c.args.dcel.now in
    let edge : c.as_undirected-middle.result ≡ ccw_of m.shape (ccw_of m.shape c.args.outside) / 2 =
    rw (c.as_undirected-middle.ensures, c.fix.ensures.value, c.ccw-2.ensures.number, c.ccw.ensures.mesh, c.ccw.ensures.number, c.directed_edge.ensures.mesh, c.directed_edge.ensures.number)
    refl in
    back_second g.UE.EdgeConstraint.is_constraint m c.every_mesh.ensures c.args.due.now.items c.requires.sound c.args.vertex c.args.outside c.requires.corner c.requires.flat c.flip_cw.new.dcel c.as_undirected-middle.result edge c.flip_cw.ensures.edit c.cut_strip.new.dcel c.in_default.ensures.refused

pub turn_back-requires-clause-third : goal.turn_back-requires-clause-third
turn_back-requires-clause-third g c =
    let m = c.args.dcel.now in
    let edge : c.as_undirected-middle.result ≡ ccw_of m.shape (ccw_of m.shape c.args.outside) / 2 =
    rw (c.as_undirected-middle.ensures, c.fix.ensures.value, c.ccw-2.ensures.number, c.ccw.ensures.mesh, c.ccw.ensures.number, c.directed_edge.ensures.mesh, c.directed_edge.ensures.number)
    refl in
    back_third g.UE.EdgeConstraint.is_constraint m c.every_mesh.ensures c.args.due.now.items c.requires.sound c.args.vertex c.args.outside c.requires.corner c.requires.flat c.flip_cw.new.dcel c.as_undirected-middle.result edge c.flip_cw.ensures.edit c.cut_strip.new.dcel c.in_default.ensures.refused

pub returns-in_err-reserve-clause-sound : goal.returns-in_err-reserve-clause-sound
returns-in_err-reserve-clause-sound g c =
    on_err c.from_residual.result _ (rw c.reserve.ensures.items (record { triangulated = c.requires.sound; listed = λ lists. lists }))

pub returns-in_default-clause-sound : goal.returns-in_default-clause-sound
returns-in_default-clause-sound g c =
    let m = c.args.dcel.now in
    let edge : c.as_undirected-middle.result ≡ ccw_of m.shape (ccw_of m.shape c.args.outside) / 2 =
    rw (c.as_undirected-middle.ensures, c.fix.ensures.value, c.ccw-2.ensures.number, c.ccw.ensures.mesh, c.ccw.ensures.number, c.directed_edge.ensures.mesh, c.directed_edge.ensures.number)
    refl in
    back_sound g.UE.EdgeConstraint.is_constraint m c.every_mesh.ensures c.args.due.now.items c.requires.sound c.args.vertex c.args.outside c.requires.corner c.requires.flat c.flip_cw.new.dcel c.as_undirected-middle.result edge c.flip_cw.ensures.edit c.cut_strip.new.dcel c.in_default.ensures.refused c.turn_back.new.dcel c.turn_back.ensures c.append_sides.new.list.items
    (rw (c.append_sides.ensures.items, c.push_reserved.ensures.items, c.reserve.ensures.items) refl)

pub returns-in_default-clause-staying : goal.returns-in_default-clause-staying
returns-in_default-clause-staying g c =
    let m = c.args.dcel.now in
    let edge : c.as_undirected-middle.result ≡ ccw_of m.shape (ccw_of m.shape c.args.outside) / 2 =
    rw (c.as_undirected-middle.ensures, c.fix.ensures.value, c.ccw-2.ensures.number, c.ccw.ensures.mesh, c.ccw.ensures.number, c.directed_edge.ensures.mesh, c.directed_edge.ensures.number)
    refl in
    back_staying g.UE.EdgeConstraint.is_constraint m c.every_mesh.ensures c.args.due.now.items c.requires.sound c.args.vertex c.args.outside c.requires.corner c.requires.flat c.flip_cw.new.dcel c.as_undirected-middle.result edge c.flip_cw.ensures.edit c.cut_strip.new.dcel c.in_default.ensures.refused c.turn_back.new.dcel c.turn_back.ensures

pub returns-in_default-clause-hull : goal.returns-in_default-clause-hull
returns-in_default-clause-hull g c =
    let m = c.args.dcel.now in
    let edge : c.as_undirected-middle.result ≡ ccw_of m.shape (ccw_of m.shape c.args.outside) / 2 =
    rw (c.as_undirected-middle.ensures, c.fix.ensures.value, c.ccw-2.ensures.number, c.ccw.ensures.mesh, c.ccw.ensures.number, c.directed_edge.ensures.mesh, c.directed_edge.ensures.number)
    refl in
    back_hull g.UE.EdgeConstraint.is_constraint m c.every_mesh.ensures c.args.due.now.items c.requires.sound c.args.vertex c.args.outside c.requires.corner c.requires.flat c.flip_cw.new.dcel c.as_undirected-middle.result edge c.flip_cw.ensures.edit c.cut_strip.new.dcel c.in_default.ensures.refused c.turn_back.new.dcel c.turn_back.ensures

pub returns-clause-given_up : goal.returns-clause-given_up
returns-clause-given_up g c =
    let m = c.args.dcel.now in
    let edge : c.as_undirected-middle.result ≡ ccw_of m.shape (ccw_of m.shape c.args.outside) / 2 =
    rw (c.as_undirected-middle.ensures, c.fix.ensures.value, c.ccw-2.ensures.number, c.ccw.ensures.mesh, c.ccw.ensures.number, c.directed_edge.ensures.mesh, c.directed_edge.ensures.number)
    refl in
    mid_gone g.UE.EdgeConstraint.is_constraint m c.every_mesh.ensures c.args.due.now.items c.requires.sound c.args.vertex c.args.outside c.requires.corner c.requires.flat c.flip_cw.new.dcel c.as_undirected-middle.result edge c.flip_cw.ensures.edit c.requires.loose c.cut_strip.new.dcel c.in-Ok.opened c.append_sides.new.list.items (rw (c.append_sides.ensures.items, c.push_reserved.ensures.items, c.reserve.ensures.items) refl) c.in-Ok.ensures.cut
