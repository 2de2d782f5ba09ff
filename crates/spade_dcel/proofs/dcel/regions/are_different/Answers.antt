use Rattle.std.proofs.lemmas.Bool.{both_ways, false≢true}
use Rattle.dcel_maps.proofs.removal.RingLoops.{once_fails, once_goes_on}
use Rattle.spade_dcel.proofs.dcel.regions.are_different.Goals as goal

pub returns-then-is_among : goal.returns-then-is_among
returns-then-is_among g c = (
  λ is. absurd (false≢true is),
  λ all. absurd (once_fails c.args.items.now c.loop-item.left.now c.loop-item.invariant c.in-Some.item.now c.in-Some.after.now
      c.in-Some.ensures.cases.0 (c.is_among.ensures.0 c.if-is_among.true) all),
)

pub loop-item-preserved : goal.loop-item-preserved
loop-item-preserved g c =
    once_goes_on c.args.items.now c.loop-item.left.now c.loop-item.invariant c.in-Some.item.now c.in-Some.after.now
    c.in-Some.ensures.cases.0 (λ found. both_ways c.is_among.result c.if-is_among.false (c.is_among.ensures.1 found))
