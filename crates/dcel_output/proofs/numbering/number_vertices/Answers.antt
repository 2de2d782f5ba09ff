use Rattle.std.proofs.Common.{◌<◌, length, arith, append-nil}
use Rattle.std.proofs.lemmas.List.{drop_all, get_or_default, take_all}
use Rattle.std.proofs.lemmas.List.Edits.{map_over_more}
use Rattle.dcel_output.specs.Numbering.{number_at}
use Rattle.dcel_output.proofs.numbering.number_vertices.Goals as goal

pub loop-vertex-preserved : goal.loop-vertex-preserved
loop-vertex-preserved c =
    let within : c.loop-vertex.vertex-index < length c.loop-vertex.vertices = omega arith in
    rw c.number_at.ensures
    (map_over_more (number_at c.args.numbers.now) c.args.vertices.now c.loop-vertex.vertices c.loop-vertex.vertex-index _ (omega arith) c.loop-vertex.invariant
    (get_or_default c.loop-vertex.vertices c.loop-vertex.vertex-index _ _ within))

pub returns : goal.returns
returns c =
    let past = c.loop-vertex-test.false in
    rw (take_all c.loop-vertex.vertex-index c.args.vertices.now past, drop_all c.loop-vertex.vertex-index c.args.vertices.now past, append-nil) at c.loop-vertex.invariant
