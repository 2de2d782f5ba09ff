use Rattle.dcel_refinement.proofs.Reached.{denominator_is, numerator_is}
use Rattle.dcel_refinement.proofs.tangents.Bound.of.Goals as goal

pub returns-clause-numerator : goal.returns-clause-numerator
returns-clause-numerator c = numerator_is c.args.arc

pub returns-clause-denominator : goal.returns-clause-denominator
returns-clause-denominator c = denominator_is c.args.arc
