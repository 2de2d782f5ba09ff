use Rattle.dcel_predicates.proofs.line.squared_distance.Goals as goal
use Rattle.dcel_predicates.proofs.Machine.{squared_distance_is, squared_distance_within}

pub returns-clause-value : goal.returns-clause-value
returns-clause-value c = squared_distance_is c.args.p c.args.q

pub returns-clause-bound : goal.returns-clause-bound
returns-clause-bound c = rw (squared_distance_is c.args.p c.args.q) (squared_distance_within c.args.p c.args.q)
