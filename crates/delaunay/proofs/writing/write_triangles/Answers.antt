use Rattle.std.proofs.Common.{◌∙◌, List, subst}
use Rattle.std.proofs.lemmas.Result.{on_ok_weaker}
use Rattle.std.specs.Io.KnownBytes.{Appends}
use Rattle.dcel_delaunay.specs.declared.triangles.triangle.Triangle.{Triangle}
use Rattle.dcel_output.specs.Lines.{lines_of, triangle_line}
use Rattle.delaunay.proofs.writing.write_triangles.Goals as goal

pub returns : goal.returns
returns g c =
    on_ok_weaker c.write_triangles.result
    (λ text. subst (λ (l : List Triangle). Appends (g.W.Write.contents c.args.writer.now) (g.W.Write.contents c.write_triangles.new.writer) (lines_of triangle_line l)) (c.deref.ensures.value ∙ c.in_ok-triangles.ensures) text)
    c.write_triangles.ensures
