use Rattle.std.proofs.Common.{◌∙◌, ℕ, List, subst}
use Rattle.std.proofs.lemmas.Result.{on_ok_weaker}
use Rattle.std.specs.Io.KnownBytes.{Appends}
use Rattle.dcel_output.specs.Lines.{lines_of, vertex_line}
use Rattle.delaunay.proofs.writing.write_hull.Goals as goal

pub returns : goal.returns
returns g c =
    on_ok_weaker c.write_vertices.result
    (λ text. subst (λ (l : List ℕ). Appends (g.W.Write.contents c.args.writer.now) (g.W.Write.contents c.write_vertices.new.writer) (lines_of vertex_line l)) (c.deref.ensures.value ∙ c.in_ok-hull.ensures) text)
    c.write_vertices.ensures
