use Rattle.std.proofs.Common.{arith}
use Rattle.std.proofs.KnownBytes.{Appends-nil}
use Rattle.std.proofs.lemmas.List.{take_all}
use Rattle.dcel_output.specs.Lines.{edge_line}
use Rattle.dcel_output.proofs.Lines.{one_more}
use Rattle.dcel_output.proofs.writing.write_edges.Goals as goal

pub loop-ends-init : goal.loop-ends-init
loop-ends-init g c = Appends-nil _

pub loop-ends-preserved : goal.loop-ends-preserved
loop-ends-preserved g c =
    one_more edge_line c.args.edges.now c.loop-ends.ends-index _ _ _ _ (omega arith) c.loop-ends.invariant c.in_ok-write_edge.ensures

pub returns : goal.returns
returns g c = rw (take_all c.loop-ends.ends-index c.args.edges.now (omega arith)) at c.loop-ends.invariant
