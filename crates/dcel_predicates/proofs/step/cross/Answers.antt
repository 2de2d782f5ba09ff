use Rattle.dcel_predicates.proofs.step.cross.Goals as goal
use Rattle.dcel_predicates.proofs.Sums.{difference_fits, difference_held, difference_bound}

pub overflow_sub-result : goal.overflow_sub-result
overflow_sub-result c = let p = c.args.p in let q = c.args.q in difference_fits p.x q.y p.y q.x p.x_in_range q.y_in_range p.y_in_range q.x_in_range

pub returns-clause-value : goal.returns-clause-value
returns-clause-value c = let p = c.args.p in let q = c.args.q in difference_held p.x q.y p.y q.x p.x_in_range q.y_in_range p.y_in_range q.x_in_range

pub returns-clause-bound : goal.returns-clause-bound
returns-clause-bound c = let p = c.args.p in let q = c.args.q in difference_bound p.x q.y p.y q.x p.x_in_range q.y_in_range p.y_in_range q.x_in_range
