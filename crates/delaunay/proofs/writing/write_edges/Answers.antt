use Rattle.std.proofs.Common.{◌∙◌, List, subst}
use Rattle.std.proofs.lemmas.Result.{on_ok_weaker}
use Rattle.std.specs.Io.KnownBytes.{Appends}
use Rattle.dcel_delaunay.specs.declared.lists.Ends.{Ends}
use Rattle.dcel_output.specs.Lines.{edge_line, lines_of}
use Rattle.delaunay.proofs.writing.write_edges.Goals as goal

pub returns : goal.returns
returns g c =
    on_ok_weaker c.write_edges.result
    (λ text. subst (λ (l : List Ends). Appends (g.W.Write.contents c.args.writer.now) (g.W.Write.contents c.write_edges.new.writer) (lines_of edge_line l)) (c.deref.ensures.value ∙ c.in_ok-edges.ensures) text)
    c.write_edges.ensures
