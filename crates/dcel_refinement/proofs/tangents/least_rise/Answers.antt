use Rattle.std.proofs.Common.{◌+◌, ◌-◌, ◌/◌, arith}
use Rattle.dcel_refinement.proofs.Reached.{reaches_above}
use Rattle.dcel_refinement.proofs.tangents.least_rise.Goals as goal

pub loop-low-preserved : goal.loop-low-preserved
loop-low-preserved c =
    let at = c.loop-low in
    let before = at.invariant in record {
      range = before.range;
      reaches = before.reaches;
      least = λ rise some. reaches_above c.args.steps 65535 (at.low + (at.high - at.low) / 2) rise (λ h. let held = c.reaches.ensures.1 h in let failed = c.if-reaches.false in cc) some;
      order = omega (arith, before.order, c.loop-low-test.true);
    }
