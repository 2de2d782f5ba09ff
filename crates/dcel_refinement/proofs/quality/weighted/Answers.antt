use Rattle.std.proofs.Common.{arith}
use Rattle.dcel_refinement.proofs.Dots.{weighted_fits, weighted_is, weighted_within}
use Rattle.dcel_refinement.proofs.quality.weighted.Goals as goal

pub overflow_mul-result : goal.overflow_mul-result
overflow_mul-result c = weighted_fits c.args.weight c.args.value (omega (arith, c.ranges.weight.fits)) c.requires

pub returns-clause-value : goal.returns-clause-value
returns-clause-value c = weighted_is c.args.weight c.args.value (omega (arith, c.ranges.weight.fits)) c.requires

pub returns-clause-bound : goal.returns-clause-bound
returns-clause-bound c =
    rw (weighted_is c.args.weight c.args.value (omega (arith, c.ranges.weight.fits)) c.requires)
    (weighted_within c.args.weight c.args.value (omega (arith, c.ranges.weight.fits)) c.requires)
