use Rattle.dcel_planar.proofs.Whole.{on_err}
use Rattle.dcel_delaunay.proofs.Thinned.{thin_begins, thin_listed, thinning_after}
use Rattle.dcel_delaunay.specs.Thinning.{with_spokes}
use Rattle.dcel_delaunay.proofs.remove.flips.thin_out.Goals as goal

pub returns-in_err-list_link-clause-refused : goal.returns-in_err-list_link-clause-refused
returns-in_err-list_link-clause-refused g c =
    on_err c.from_residual.result _
    (thin_begins _ c.args.dcel.now c.args.vertex _ _ c.every_mesh.ensures c.requires.sound c.requires.hull c.requires.vertex c.requires.loose c.list_link.ensures.keeps)

pub has_three-requires-clause-inside : goal.has_three-requires-clause-inside
has_three-requires-clause-inside g c = c.cut_ears.ensures.thinning.thinned.inside c.requires.inside

pub returns-then-has_three-clause-thinning : goal.returns-then-has_three-clause-thinning
returns-then-has_three-clause-thinning g c =
    let m = c.args.dcel.now in
    let listed = c.list_link.new.due.items in
    thinning_after _ m m c.cut_ears.new.dcel c.args.vertex c.args.due.now.items (with_spokes m c.args.vertex listed) c.cut_ears.new.due.items
    (thin_listed _ m c.args.vertex c.args.due.now.items listed c.every_mesh.ensures c.requires.sound c.requires.hull c.requires.vertex c.requires.loose c.list_link.ensures.keeps)
    c.cut_ears.ensures.thinning

pub returns-clause-thinning : goal.returns-clause-thinning
returns-clause-thinning g c =
    let m = c.args.dcel.now in
    let mid = c.cut_ears.new.dcel in
    let listed = c.list_link.new.due.items in
    let ears =
    thinning_after _ m m mid c.args.vertex c.args.due.now.items (with_spokes m c.args.vertex listed) c.cut_ears.new.due.items
    (thin_listed _ m c.args.vertex c.args.due.now.items listed c.every_mesh.ensures c.requires.sound c.requires.hull c.requires.vertex c.requires.loose c.list_link.ensures.keeps)
    c.cut_ears.ensures.thinning in
    thinning_after _ m mid c.cut_others.new.dcel c.args.vertex c.args.due.now.items (with_spokes mid c.args.vertex c.cut_ears.new.due.items) c.cut_others.new.due.items
    ears.thinned c.cut_others.ensures.thinning
