use Rattle.std.proofs.Common.{arith}
use Rattle.dcel_decimals.proofs.grid.Grid.fit.Goals as goal
use Rattle.dcel_decimals.proofs.Gridding.{all_fit, more_fit, own_fits}

pub loop-decimal-preserved : goal.loop-decimal-preserved
loop-decimal-preserved c =
    let ds = c.args.decimals.now in
    let i = c.loop-decimal.decimal-index in
    let d = c.decimal-item.result in
    let before = c.loop-decimal.invariant in
    let next = c.halvings_for-halvings in record {
      bound = omega (arith, before.bound, next.ensures.bound);
      fits = more_fit ds i d c.loop-decimal-test.true c.decimal-item.is c.loop-decimal.halvings next.result next.ensures.bound next.ensures.fits before.fits;
      finest = λ k few all. next.ensures.finest k (before.finest k few all) (own_fits ds i d c.loop-decimal-test.true c.decimal-item.is k all);
    }

pub returns-clause-fits : goal.returns-clause-fits
returns-clause-fits c = all_fit c.loop-decimal.halvings c.args.decimals.now c.loop-decimal.decimal-index c.loop-decimal-test.false c.loop-decimal.invariant.fits
