use Rattle.std.proofs.Common.{◌<◌, length, arith, append-nil}
use Rattle.std.proofs.lemmas.List.{drop_all, get_or_default, take_all}
use Rattle.std.proofs.lemmas.List.Edits.{map_over_more}
use Rattle.dcel_output.specs.Keeping.{placed_across}
use Rattle.dcel_output.proofs.keeping.place_each.Goals as goal

pub loop-across-preserved : goal.loop-across-preserved
loop-across-preserved c =
    let within : c.loop-across.across-index < length c.loop-across.list = omega arith in
    rw c.placed_across.ensures
    (map_over_more (placed_across c.args.places.now) c.args.list.now c.loop-across.list c.loop-across.across-index _ (omega arith) c.loop-across.invariant
    (get_or_default c.loop-across.list c.loop-across.across-index _ _ within))

pub returns : goal.returns
returns c =
    let past = c.loop-across-test.false in
    rw (take_all c.loop-across.across-index c.args.list.now past, drop_all c.loop-across.across-index c.args.list.now past, append-nil) at c.loop-across.invariant
