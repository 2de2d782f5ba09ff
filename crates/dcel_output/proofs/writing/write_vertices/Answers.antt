use Rattle.std.proofs.Common.{arith}
use Rattle.std.proofs.KnownBytes.{Appends-nil}
use Rattle.std.proofs.lemmas.List.{take_all}
use Rattle.dcel_output.specs.Lines.{vertex_line}
use Rattle.dcel_output.proofs.Lines.{one_more}
use Rattle.dcel_output.proofs.writing.write_vertices.Goals as goal

pub loop-number-init : goal.loop-number-init
loop-number-init g c = Appends-nil _

pub loop-number-preserved : goal.loop-number-preserved
loop-number-preserved g c =
    one_more vertex_line c.args.numbers.now c.loop-number.number-index _ _ _ _ (omega arith) c.loop-number.invariant c.in_ok-write_vertex.ensures

pub returns : goal.returns
returns g c = rw (take_all c.loop-number.number-index c.args.numbers.now (omega arith)) at c.loop-number.invariant
