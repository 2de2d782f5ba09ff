use Rattle.std.proofs.Common.{◌∙◌, List, option_copied, subst}
use Rattle.std.proofs.lemmas.Result.{on_ok_weaker}
use Rattle.std.specs.Io.KnownBytes.{Appends}
use Rattle.std.specs.List.{zip}
use Rattle.dcel_delaunay.specs.declared.lists.Across.{Across}
use Rattle.dcel_delaunay.specs.declared.triangles.triangle.Triangle.{Triangle}
use Rattle.dcel_output.specs.Lines.{lines_of, neighbor_line}
use Rattle.delaunay.specs.Texts.{across_each, shown_across}
use Rattle.delaunay.proofs.writing.write_neighbors.Goals as goal

pub returns : goal.returns
returns g c =
    let old = g.W.Write.contents c.args.writer.now in
    let new = g.W.Write.contents c.write_neighbors.new.writer in
    let across = shown_across (option_copied c.args.view.now.inside) (across_each c.args.view.now.mesh.now) in
    on_ok_weaker c.write_neighbors.result
    (λ text.
    subst (λ (ts : List Triangle). Appends old new (lines_of neighbor_line (zip ts across))) (c.deref.ensures.value ∙ c.in_ok-triangles.ensures)
    (subst (λ (ns : List Across). Appends old new (lines_of neighbor_line (zip c.deref.result.now ns))) (c.deref-2.ensures.value ∙ c.in_ok-neighbors.ensures) text))
    c.write_neighbors.ensures
