use Rattle.std.proofs.Common.{arith}
use Rattle.std.proofs.KnownBytes.{Appends-nil}
use Rattle.std.proofs.lemmas.List.{take_all}
use Rattle.dcel_output.specs.Lines.{triangle_line}
use Rattle.dcel_output.proofs.Lines.{one_more}
use Rattle.dcel_output.proofs.writing.write_triangles.Goals as goal

pub loop-triangle-init : goal.loop-triangle-init
loop-triangle-init g c = Appends-nil _

pub loop-triangle-preserved : goal.loop-triangle-preserved
loop-triangle-preserved g c =
    one_more triangle_line c.args.triangles.now c.loop-triangle.triangle-index _ _ _ _ (omega arith) c.loop-triangle.invariant c.in_ok-write_triangle.ensures

pub returns : goal.returns
returns g c = rw (take_all c.loop-triangle.triangle-index c.args.triangles.now (omega arith)) at c.loop-triangle.invariant
