use Rattle.std.proofs.Common.{arith}
use Rattle.dcel_floats.specs.Grids.{FitsGrid}
use Rattle.dcel_floats.proofs.grid.Grid.fit.Goals as goal
use Rattle.dcel_floats.proofs.Fitting.{all_of, more_finite, more_fit, still_finest}

pub loop-number-preserved : goal.loop-number-preserved
loop-number-preserved c =
    let xs = c.args.numbers.now in
    let i = c.loop-number.number-index in
    let b = c.in-Some.binary in
    let before = c.loop-number.invariant in
    let own = c.finest in
    let power = c.loop-number.power in record {
      bound = omega (arith, before.bound, own.ensures.bound, c.max-power.ensures);
      finite = more_finite xs i b c.loop-number-test.true c.in-Some.ensures before.finite;
      fits = more_fit xs i b c.loop-number-test.true c.in-Some.ensures power own.result c.max-power.result (omega (arith, c.max-power.ensures)) (omega (arith, c.max-power.ensures)) own.ensures.within before.fits;
      finest = λ k all.
          let one = before.finest k all in
          let other = still_finest xs i b c.loop-number-test.true c.in-Some.ensures own.result own.ensures.finest k all in
          omega (arith, one, other, c.max-power.ensures);
    }

pub returns-clause-fits : goal.returns-clause-fits
returns-clause-fits c = all_of (FitsGrid c.loop-number.power) c.args.numbers.now c.loop-number.number-index c.loop-number-test.false c.loop-number.invariant.fits
