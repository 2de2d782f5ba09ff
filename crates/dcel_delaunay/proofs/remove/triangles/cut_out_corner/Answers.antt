use Rattle.std.proofs.Common.{ap, inr}
use Rattle.dcel_maps.specs.Renumbering.{cleaned}
use Rattle.dcel_planar.proofs.Growth.{keeps-trans}
use Rattle.dcel_planar.proofs.Whole.{on_err}
use Rattle.dcel_delaunay.proofs.Lost.{lost_before, lost_staying, more_vertices, outside_below}
use Rattle.dcel_delaunay.proofs.Fewer.{given_fewer, named_dead}
use Rattle.dcel_delaunay.proofs.Staying.{keeps_trans, legal_trans}
use Rattle.dcel_delaunay.proofs.TakenOut.{taken_hull, taken_loses, taken_sound, taken_staying}
use Rattle.dcel_delaunay.proofs.remove.triangles.cut_out_corner.Goals as goal

pub thin_corner-requires-clause-vertex : goal.thin_corner-requires-clause-vertex
thin_corner-requires-clause-vertex g c = outside_below c.args.dcel.now c.every_mesh.ensures c.args.vertex c.args.outside c.requires.outside

pub cut_off-requires-clause-corner : goal.cut_off-requires-clause-corner
cut_off-requires-clause-corner g c =
    let thinned = c.thin_corner.ensures.thinned in
    record { outside = thinned.outside c.args.outside c.requires.outside; hull = thinned.hull; none = c.in_ok-thin_corner.ensures.done }

pub drop_given_up-requires : goal.drop_given_up-requires
drop_given_up-requires g c = rw c.deref.ensures.value (named_dead c.cut_off.new.dcel.shape _ _ c.in_ok-opened.ensures.given_up.named)

pub take_out-requires-clause-given_up : goal.take_out-requires-clause-given_up
take_out-requires-clause-given_up g c = ap cleaned c.in_ok-opened.ensures.given_up.emptied.removal

pub returns-in_err-opened-clause-keeps : goal.returns-in_err-opened-clause-keeps
returns-in_err-opened-clause-keeps g c =
    on_err c.from_residual-in_err-opened.result _
    (keeps-trans c.args.dcel.now c.thin_corner.new.dcel c.cut_off.new.dcel c.thin_corner.ensures.thinned.keeps c.in_err-opened.ensures.keeps)

pub returns-in_err-opened-clause-hull : goal.returns-in_err-opened-clause-hull
returns-in_err-opened-clause-hull g c = inr c.in_err-opened.ensures.hull

pub returns-in_err-opened-clause-sound : goal.returns-in_err-opened-clause-sound
returns-in_err-opened-clause-sound g c =
    legal_trans _ c.args.dcel.now c.thin_corner.new.dcel c.cut_off.new.dcel c.args.due.now.items c.thin_corner.new.due.items c.cut_off.new.due.items c.thin_corner.ensures.thinned.sound
    c.in_err-opened.ensures.sound

pub returns-clause-sound : goal.returns-clause-sound
returns-clause-sound g c =
    let mid = c.thin_corner.new.dcel in
    let thinned = c.thin_corner.ensures.thinned in
    let given = given_fewer _ mid c.cut_off.new.dcel c.args.vertex c.thin_corner.new.due.items c.cut_off.new.due.items c.drop_given_up.new.due.items c.in_ok-opened.ensures.given_up.emptied c.drop_given_up.ensures in
    let within = outside_below mid thinned.mesh c.args.vertex c.args.outside (thinned.outside c.args.outside c.requires.outside) in
    legal_trans _ c.args.dcel.now mid c.take_out.new.dcel c.args.due.now.items c.thin_corner.new.due.items c.take_out.new.due.items thinned.sound
    (taken_sound _ mid c.cut_off.new.dcel c.take_out.new.dcel c.args.vertex c.thin_corner.new.due.items c.drop_given_up.new.due.items c.take_out.new.due.items given within
    (more_vertices mid thinned.mesh thinned.sound.triangulated thinned.hull) c.take_out.ensures.clean c.take_out.ensures.mesh c.take_out.ensures.edit c.take_out.ensures.due)

pub returns-clause-hull : goal.returns-clause-hull
returns-clause-hull g c =
    let mid = c.thin_corner.new.dcel in
    let thinned = c.thin_corner.ensures.thinned in
    let given = given_fewer _ mid c.cut_off.new.dcel c.args.vertex c.thin_corner.new.due.items c.cut_off.new.due.items c.drop_given_up.new.due.items c.in_ok-opened.ensures.given_up.emptied c.drop_given_up.ensures in
    let within = outside_below mid thinned.mesh c.args.vertex c.args.outside (thinned.outside c.args.outside c.requires.outside) in
    taken_hull _ mid c.cut_off.new.dcel c.take_out.new.dcel c.args.vertex c.thin_corner.new.due.items c.drop_given_up.new.due.items c.take_out.new.due.items given within
    (more_vertices mid thinned.mesh thinned.sound.triangulated thinned.hull) c.take_out.ensures.clean c.take_out.ensures.mesh c.take_out.ensures.edit c.take_out.ensures.due

pub returns-clause-loses : goal.returns-clause-loses
returns-clause-loses g c =
    let mid = c.thin_corner.new.dcel in
    let thinned = c.thin_corner.ensures.thinned in
    let given = given_fewer _ mid c.cut_off.new.dcel c.args.vertex c.thin_corner.new.due.items c.cut_off.new.due.items c.drop_given_up.new.due.items c.in_ok-opened.ensures.given_up.emptied c.drop_given_up.ensures in
    let within = outside_below mid thinned.mesh c.args.vertex c.args.outside (thinned.outside c.args.outside c.requires.outside) in
    lost_before c.args.dcel.now mid c.take_out.new.dcel c.args.vertex c.take_out.result thinned.keeps.points thinned.keeps.vertices
    (taken_loses _ mid c.cut_off.new.dcel c.take_out.new.dcel c.args.vertex c.thin_corner.new.due.items c.drop_given_up.new.due.items c.take_out.new.due.items given within
    (more_vertices mid thinned.mesh thinned.sound.triangulated thinned.hull) c.take_out.ensures.clean c.take_out.ensures.mesh c.take_out.ensures.edit c.take_out.ensures.due
    c.take_out.result c.take_out.ensures.point c.take_out.ensures.moved)

pub returns-clause-staying : goal.returns-clause-staying
returns-clause-staying g c =
    let mid = c.thin_corner.new.dcel in
    let thinned = c.thin_corner.ensures.thinned in
    let given = given_fewer _ mid c.cut_off.new.dcel c.args.vertex c.thin_corner.new.due.items c.cut_off.new.due.items c.drop_given_up.new.due.items c.in_ok-opened.ensures.given_up.emptied c.drop_given_up.ensures in
    let within = outside_below mid thinned.mesh c.args.vertex c.args.outside (thinned.outside c.args.outside c.requires.outside) in
    lost_staying _ c.args.dcel.now mid c.take_out.new.dcel c.args.vertex thinned.keeps.vertices thinned.staying
    (taken_staying _ mid c.cut_off.new.dcel c.take_out.new.dcel c.args.vertex c.thin_corner.new.due.items c.drop_given_up.new.due.items c.take_out.new.due.items given within
    (more_vertices mid thinned.mesh thinned.sound.triangulated thinned.hull) c.take_out.ensures.clean c.take_out.ensures.mesh c.take_out.ensures.edit c.take_out.ensures.due)

pub returns-in_err-opened-clause-still : goal.returns-in_err-opened-clause-still
returns-in_err-opened-clause-still g c =
    on_err c.from_residual-in_err-opened.result _
    (keeps_trans _ c.args.dcel.now c.thin_corner.new.dcel c.cut_off.new.dcel c.thin_corner.ensures.thinned.staying c.in_err-opened.ensures.staying)
