use Rattle.std.proofs.Common.{◌<◌, length, arith, append-nil}
use Rattle.std.proofs.lemmas.List.{drop_all, get_or_default, take_all}
use Rattle.std.proofs.lemmas.List.Edits.{map_over_more}
use Rattle.dcel_output.specs.Numbering.{triangle_numbered}
use Rattle.dcel_output.proofs.numbering.number_triangles.Goals as goal

pub loop-triangle-preserved : goal.loop-triangle-preserved
loop-triangle-preserved c =
    let within : c.loop-triangle.triangle-index < length c.loop-triangle.triangles = omega arith in
    rw c.triangle_numbered.ensures
    (map_over_more (triangle_numbered c.args.numbers.now) c.args.triangles.now c.loop-triangle.triangles c.loop-triangle.triangle-index _ (omega arith) c.loop-triangle.invariant
    (get_or_default c.loop-triangle.triangles c.loop-triangle.triangle-index _ _ within))

pub returns : goal.returns
returns c =
    let past = c.loop-triangle-test.false in
    rw (take_all c.loop-triangle.triangle-index c.args.triangles.now past, drop_all c.loop-triangle.triangle-index c.args.triangles.now past, append-nil) at c.loop-triangle.invariant
