use Rattle.std.proofs.Common.{inr, subst, sym, arith}
use Rattle.dcel_planar.proofs.Whole.{on_err}
use Rattle.dcel_planar.specs.Growing.{HasHull, Keeps}
use Rattle.dcel_delaunay.proofs.Lost.{lost_before, lost_staying, room_still, thin_is}
use Rattle.dcel_delaunay.proofs.Staying.{legal_trans}
use Rattle.dcel_delaunay.specs.Staying.{KeepsStaying}
use Rattle.dcel_delaunay.specs.Thinning.{with_spokes}
use Rattle.dcel_delaunay.proofs.remove.triangles.cut_out.Goals as goal

pub take_thinned-requires-clause-thin : goal.take_thinned-requires-clause-thin
take_thinned-requires-clause-thin g c =
    let thinned = c.in_ok-thin_out.ensures.thinning.thinned in
    thin_is c.thin_out.new.dcel thinned.mesh thinned.sound.triangulated thinned.hull c.args.vertex thinned.below (thinned.inside c.requires.inside) c.in_ok-thin_out.ensures.done

pub take_thinned-requires-clause-room : goal.take_thinned-requires-clause-room
take_thinned-requires-clause-room g c =
    let thinned = c.in_ok-thin_out.ensures.thinning.thinned in
    room_still c.args.dcel.now c.thin_out.new.dcel c.requires.sound thinned.sound.triangulated (omega (arith, c.requires.vertex))
    thinned.keeps.vertices thinned.edges c.requires.room

pub returns-clause-sound : goal.returns-clause-sound
returns-clause-sound g c =
    let mid = c.thin_out.new.dcel in
    let list = with_spokes mid c.args.vertex c.thin_out.new.due.items in
    legal_trans _ c.args.dcel.now mid c.take_thinned.new.dcel c.args.due.now.items list c.take_thinned.new.due.items
    c.in_ok-thin_out.ensures.thinning.thinned.sound c.in_ok-removed.ensures.taken.sound

pub returns-clause-hull : goal.returns-clause-hull
returns-clause-hull g c = c.in_ok-removed.ensures.taken.hull

pub returns-in_err-removed-clause-sound : goal.returns-in_err-removed-clause-sound
returns-in_err-removed-clause-sound g c =
    let mid = c.thin_out.new.dcel in
    let list = with_spokes mid c.args.vertex c.thin_out.new.due.items in
    legal_trans _ c.args.dcel.now mid c.take_thinned.new.dcel c.args.due.now.items list c.take_thinned.new.due.items
    c.in_ok-thin_out.ensures.thinning.thinned.sound c.in_err-removed.ensures.still

pub returns-clause-loses : goal.returns-clause-loses
returns-clause-loses g c =
    let thinned = c.in_ok-thin_out.ensures.thinning.thinned in
    lost_before c.args.dcel.now c.thin_out.new.dcel c.take_thinned.new.dcel c.args.vertex c.in_ok-removed.removed thinned.keeps.points thinned.keeps.vertices
    c.in_ok-removed.ensures.taken.loses

pub returns-clause-staying : goal.returns-clause-staying
returns-clause-staying g c =
    let thinned = c.in_ok-thin_out.ensures.thinning.thinned in
    lost_staying _ c.args.dcel.now c.thin_out.new.dcel c.take_thinned.new.dcel c.args.vertex thinned.keeps.vertices thinned.staying c.in_ok-removed.ensures.taken.staying

pub returns-in_err-removed-clause-keeps : goal.returns-in_err-removed-clause-keeps
returns-in_err-removed-clause-keeps g c =
    on_err c.from_residual-in_err-removed.result _
    (subst (λ m. Keeps c.args.dcel.now m) (sym c.in_err-removed.ensures.refused) c.in_ok-thin_out.ensures.thinning.thinned.keeps)

pub returns-in_err-removed-clause-hull : goal.returns-in_err-removed-clause-hull
returns-in_err-removed-clause-hull g c =
    inr (subst (λ m. HasHull m) (sym c.in_err-removed.ensures.refused) c.in_ok-thin_out.ensures.thinning.thinned.hull)

pub returns-in_err-removed-clause-still : goal.returns-in_err-removed-clause-still
returns-in_err-removed-clause-still g c =
    on_err c.from_residual-in_err-removed.result _
    (subst (λ m. KeepsStaying g.UE.EdgeConstraint.is_constraint c.args.dcel.now m) (sym c.in_err-removed.ensures.refused) c.in_ok-thin_out.ensures.thinning.thinned.staying)

pub returns-in_err-thin_out-clause-keeps : goal.returns-in_err-thin_out-clause-keeps
returns-in_err-thin_out-clause-keeps g c = on_err c.from_residual.result _ c.in_err-thin_out.ensures.refused.keeps

pub returns-in_err-thin_out-clause-sound : goal.returns-in_err-thin_out-clause-sound
returns-in_err-thin_out-clause-sound g c = c.in_err-thin_out.ensures.refused.sound

pub returns-in_err-thin_out-clause-still : goal.returns-in_err-thin_out-clause-still
returns-in_err-thin_out-clause-still g c = on_err c.from_residual.result _ c.in_err-thin_out.ensures.refused.staying

pub returns-in_err-thin_out-clause-hull : goal.returns-in_err-thin_out-clause-hull
returns-in_err-thin_out-clause-hull g c = inr c.in_err-thin_out.ensures.refused.hull
