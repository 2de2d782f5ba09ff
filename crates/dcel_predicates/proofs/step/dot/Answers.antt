use Rattle.dcel_predicates.proofs.step.dot.Goals as goal
use Rattle.dcel_predicates.proofs.Sums.{sum_fits, sum_held, sum_bound}

pub overflow_add-result : goal.overflow_add-result
overflow_add-result c = let p = c.args.p in let q = c.args.q in sum_fits p.x q.x p.y q.y p.x_in_range q.x_in_range p.y_in_range q.y_in_range

pub returns-clause-value : goal.returns-clause-value
returns-clause-value c = let p = c.args.p in let q = c.args.q in sum_held p.x q.x p.y q.y p.x_in_range q.x_in_range p.y_in_range q.y_in_range

pub returns-clause-bound : goal.returns-clause-bound
returns-clause-bound c = let p = c.args.p in let q = c.args.q in sum_bound p.x q.x p.y q.y p.x_in_range q.x_in_range p.y_in_range q.y_in_range
