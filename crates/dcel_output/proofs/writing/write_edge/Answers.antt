use Rattle.std.proofs.Common.{List, ℕ, max, min, subst}
use Rattle.std.specs.Fmt.{decimal}
use Rattle.std.specs.Io.KnownBytes.{Appends}
use Rattle.std.specs.Result.{OnOk}
use Rattle.dcel_output.specs.Lines.{edge_line}
use Rattle.dcel_output.proofs.Lines.{two}
use Rattle.dcel_output.proofs.writing.write_edge.Goals as goal

pub returns : goal.returns
unfolding edge_line
returns g c =
    let e = c.args.ends in
    subst (λ (text : List ℕ). OnOk c.writeln.result (Appends (g.W.Write.contents c.args.writer.now) (g.W.Write.contents c.writeln.new.self) text))
    (two (decimal (min e.from e.to)) (decimal (max e.from e.to))) (rw (c.min-lesser.ensures, c.max-greater.ensures) at c.writeln.ensures.bytes)
