use Rattle.std.proofs.Common.{◌∙◌, arith}
use Rattle.dcel_floats.proofs.binary.Binary.normal.Goals as goal
use Rattle.dcel_floats.proofs.Steps.{doubled}

pub loop-power-preserved : goal.loop-power-preserved
loop-power-preserved c =
    let before = c.loop-power.invariant in record {
      same = doubled c.loop-power.mantissa c.loop-power.power (omega arith) ∙ before.same;
      few = omega arith;
      low = omega (arith, before.low);
    }
