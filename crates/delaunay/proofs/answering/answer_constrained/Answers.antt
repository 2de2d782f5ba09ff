use Rattle.std.proofs.Common.{◌∙◌, option_copied}
use Rattle.std.proofs.lemmas.Result.{on_ok_weaker}
use Rattle.dcel_constrained.specs.Constrained.{marked_mesh}
use Rattle.dcel_output.specs.Lines.{lines_of, nearest_line}
use Rattle.delaunay.proofs.Marked.{constrained_written, inside_written}
use Rattle.delaunay.proofs.Written.{asked, seen}
use Rattle.delaunay.proofs.answering.answer_constrained.Goals as goal

pub returns-clause-constrained : goal.returns-clause-constrained
returns-clause-constrained g c =
    let own = c.in_ok-constrained in
    let t = own.constrained in
    let view = c.view.result in
    let m = marked_mesh t.triangulation in
    let numbers = c.args.drawn.names.numbers.items in
    let near = lines_of nearest_line c.args.nearest.now in
    let given = c.args.arguments.now.output in
    on_ok_weaker c.write_drawn.result
    (λ text output asks points drawn vertices.
    constrained_written _ _ m numbers t.inside near output
    (asked _ _ near given m numbers t.inside
    (seen _ _ near given view.mesh.now m view.numbers.now numbers (option_copied view.inside) t.inside c.view.ensures.mesh (c.view.ensures.numbers ∙ own.ensures.numbers) c.view.ensures.inside text)
    output asks.asks.is asks.asks.listed)
    points c.args.drawn.names.vertices.items _ (own.ensures.triangles points drawn.numbered vertices) (own.ensures.all asks.outline))
    c.write_drawn.ensures

pub returns-clause-inside : goal.returns-clause-inside
returns-clause-inside g c =
    let own = c.in_ok-constrained in
    let t = own.constrained in
    let view = c.view.result in
    let m = marked_mesh t.triangulation in
    let numbers = c.args.drawn.names.numbers.items in
    let near = lines_of nearest_line c.args.nearest.now in
    let given = c.args.arguments.now.output in
    on_ok_weaker c.write_drawn.result
    (λ text output asks points drawn vertices.
    inside_written _ _ m numbers t.inside near output
    (asked _ _ near given m numbers t.inside
    (seen _ _ near given view.mesh.now m view.numbers.now numbers (option_copied view.inside) t.inside c.view.ensures.mesh (c.view.ensures.numbers ∙ own.ensures.numbers) c.view.ensures.inside text)
    output asks.asks.is asks.asks.listed)
    points c.args.drawn.names.vertices.items _ (own.ensures.triangles points drawn.numbered vertices) _ (own.ensures.inside asks.outline))
    c.write_drawn.ensures
