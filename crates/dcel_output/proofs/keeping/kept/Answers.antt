use Rattle.dcel_output.proofs.KeptSoFar.{kept_next}
use Rattle.dcel_output.proofs.keeping.kept.Goals as goal

pub loop-place-preserved : goal.loop-place-preserved
loop-place-preserved g c =
    kept_next c.args.flags.now c.args.items.now c.loop-place.place c.index-items-place.result c.loop-place.list.items c.keep.new.list.items c.is_set.result c.loop-place-test.true
    c.index-items-place.is c.is_set.ensures c.loop-place.invariant c.in_ok-keep.ensures
