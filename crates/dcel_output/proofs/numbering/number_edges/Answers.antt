use Rattle.std.proofs.Common.{◌<◌, length, arith, append-nil}
use Rattle.std.proofs.lemmas.List.{drop_all, get_or_default, take_all}
use Rattle.std.proofs.lemmas.List.Edits.{map_over_more}
use Rattle.dcel_output.specs.Numbering.{ends_numbered}
use Rattle.dcel_output.proofs.numbering.number_edges.Goals as goal

pub loop-ends-preserved : goal.loop-ends-preserved
loop-ends-preserved c =
    let within : c.loop-ends.ends-index < length c.loop-ends.edges = omega arith in
    rw c.ends_numbered.ensures
    (map_over_more (ends_numbered c.args.numbers.now) c.args.edges.now c.loop-ends.edges c.loop-ends.ends-index _ (omega arith) c.loop-ends.invariant
    (get_or_default c.loop-ends.edges c.loop-ends.ends-index _ _ within))

pub returns : goal.returns
returns c =
    let past = c.loop-ends-test.false in
    rw (take_all c.loop-ends.ends-index c.args.edges.now past, drop_all c.loop-ends.ends-index c.args.edges.now past, append-nil) at c.loop-ends.invariant
