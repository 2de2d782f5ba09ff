use Rattle.dcel_predicates.proofs.line.orient2d.Goals as goal
use Rattle.dcel_predicates.proofs.Machine.{whole_is, orient2d_within}

pub returns-clause-value : goal.returns-clause-value
returns-clause-value c = whole_is c.args.a c.args.b c.args.c

pub returns-clause-bound : goal.returns-clause-bound
returns-clause-bound c = rw (whole_is c.args.a c.args.b c.args.c) (orient2d_within c.args.a c.args.b c.args.c)
