use Rattle.std.proofs.Common.{subst, sym}
use Rattle.dcel_delaunay.proofs.Thinned.{thin_begins, thin_listed, thinning_after}
use Rattle.dcel_delaunay.specs.Thinning.{IsThinned, with_spokes}
use Rattle.dcel_delaunay.proofs.remove.flips.thin_corner.Goals as goal

pub returns-in_default-clause-thinned : goal.returns-in_default-clause-thinned
returns-in_default-clause-thinned g c =
    thin_begins _ c.args.dcel.now c.args.vertex _ _ c.every_mesh.ensures c.requires.sound c.requires.hull c.requires.vertex c.requires.loose (λ u there. there)

pub returns-in_err-list_link-clause-thinned : goal.returns-in_err-list_link-clause-thinned
returns-in_err-list_link-clause-thinned g c =
    thin_begins _ c.args.dcel.now c.args.vertex _ _ c.every_mesh.ensures c.requires.sound c.requires.hull c.requires.vertex c.requires.loose c.list_link.ensures.keeps

pub returns-clause-thinned : goal.returns-clause-thinned
returns-clause-thinned g c =
    let m = c.args.dcel.now in
    let listed = c.list_link.new.due.items in
    let all =
    thinning_after _ m m c.cut_others.new.dcel c.args.vertex c.args.due.now.items (with_spokes m c.args.vertex listed) c.cut_others.new.due.items
    (thin_listed _ m c.args.vertex c.args.due.now.items listed c.every_mesh.ensures c.requires.sound c.requires.hull c.requires.vertex c.requires.loose c.list_link.ensures.keeps)
    c.cut_others.ensures.thinning in
    subst (λ (list : _). IsThinned g.UE.EdgeConstraint.is_constraint m c.cut_others.new.dcel c.args.vertex c.args.due.now.items list) (sym c.list_spokes.ensures) all.thinned
