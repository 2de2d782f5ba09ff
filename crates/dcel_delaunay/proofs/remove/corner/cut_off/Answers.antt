use Rattle.dcel_planar.specs.Growing.{HasHull, Keeps}
use Rattle.dcel_delaunay.specs.Staying.{KeepsStaying, LeavesLegal}
use Rattle.dcel_delaunay.proofs.CutOff.{corner_around, cut_given, not_cut}
use Rattle.dcel_planar.proofs.Growth.{keeps-refl}
use Rattle.dcel_delaunay.proofs.remove.corner.cut_off.Goals as goal

pub lies_flat-requires : goal.lies_flat-requires
lies_flat-requires g c = rw (c.directed_edge.ensures.mesh, c.directed_edge.ensures.number) c.requires.corner.outside.live

pub cut_off_flat-requires-clause-flat : goal.cut_off_flat-requires-clause-flat
cut_off_flat-requires-clause-flat g c = (rw (c.directed_edge.ensures.mesh, c.directed_edge.ensures.number) at c.lies_flat.ensures).0 c.if-lies_flat.true

pub cut_strip-requires-clause-around : goal.cut_strip-requires-clause-around
cut_strip-requires-clause-around g c =
    corner_around g.UE.EdgeConstraint.is_constraint c.args.dcel.now c.every_mesh.ensures c.args.due.now.items c.requires.sound c.args.vertex c.args.outside c.requires.corner

pub returns-clause-given_up : goal.returns-clause-given_up
returns-clause-given_up g c =
    let told = rw (c.directed_edge.ensures.mesh, c.directed_edge.ensures.number) at c.lies_flat.ensures in
    cut_given g.UE.EdgeConstraint.is_constraint c.args.dcel.now c.every_mesh.ensures c.args.due.now.items c.requires.sound c.args.vertex c.args.outside c.requires.corner c.cut_strip.result
    c.cut_strip.new.dcel (λ flat. (let yes = told.1 flat in let no = c.if-lies_flat.false in cc)) c.cut_strip.ensures.cut

pub returns-clause-keeps : goal.returns-clause-keeps
returns-clause-keeps g c =
    not_cut (λ m. Keeps c.args.dcel.now m) c.cut_strip.result c.args.dcel.now c.cut_strip.new.dcel c.cut_strip.ensures.refused (keeps-refl c.args.dcel.now c.requires.sound.closed)

pub returns-clause-sound : goal.returns-clause-sound
returns-clause-sound g c =
    not_cut (λ m. LeavesLegal g.UE.EdgeConstraint.is_constraint c.args.dcel.now m c.args.due.now.items c.args.due.now.items) c.cut_strip.result c.args.dcel.now c.cut_strip.new.dcel
    c.cut_strip.ensures.refused (record { triangulated = c.requires.sound; listed = λ lists. lists })

pub returns-clause-hull : goal.returns-clause-hull
returns-clause-hull g c =
    not_cut (λ m. HasHull m) c.cut_strip.result c.args.dcel.now c.cut_strip.new.dcel c.cut_strip.ensures.refused c.requires.corner.hull

pub returns-clause-staying : goal.returns-clause-staying
returns-clause-staying g c =
    not_cut (λ m. KeepsStaying g.UE.EdgeConstraint.is_constraint c.args.dcel.now m) c.cut_strip.result c.args.dcel.now c.cut_strip.new.dcel c.cut_strip.ensures.refused (λ a b. (λ is. is, λ is. is))
