use Rattle.dcel_predicates.proofs.step.narrow_dot.Goals as goal
use Rattle.dcel_predicates.proofs.Narrow.{first_dot_fits, second_dot_fits, dot_fits, dot_held, dot_bound}

pub overflow_mul-result : goal.overflow_mul-result
overflow_mul-result c = let p = c.args.p in let q = c.args.q in first_dot_fits p.x p.y q.x q.y c.requires.first c.requires.second

pub overflow_mul-result-2 : goal.overflow_mul-result-2
overflow_mul-result-2 c = let p = c.args.p in let q = c.args.q in second_dot_fits p.x p.y q.x q.y c.requires.first c.requires.second

pub overflow_add-result : goal.overflow_add-result
overflow_add-result c = let p = c.args.p in let q = c.args.q in dot_fits p.x p.y q.x q.y c.requires.first c.requires.second c.requires.apart

pub returns-clause-value : goal.returns-clause-value
returns-clause-value c = let p = c.args.p in let q = c.args.q in dot_held p.x p.y q.x q.y c.requires.first c.requires.second c.requires.apart

pub returns-clause-bound : goal.returns-clause-bound
returns-clause-bound c = let p = c.args.p in let q = c.args.q in dot_bound p.x p.y q.x q.y c.requires.first c.requires.second c.requires.apart
