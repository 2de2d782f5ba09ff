use Rattle.dcel_predicates.proofs.step.narrow_cross.Goals as goal
use Rattle.dcel_predicates.proofs.Narrow.{first_cross_fits, second_cross_fits, cross_fits, cross_held, cross_bound}

pub overflow_mul-result : goal.overflow_mul-result
overflow_mul-result c = let p = c.args.p in let q = c.args.q in first_cross_fits p.x p.y q.x q.y c.requires.first c.requires.second

pub overflow_mul-result-2 : goal.overflow_mul-result-2
overflow_mul-result-2 c = let p = c.args.p in let q = c.args.q in second_cross_fits p.x p.y q.x q.y c.requires.first c.requires.second

pub overflow_sub-result : goal.overflow_sub-result
overflow_sub-result c = let p = c.args.p in let q = c.args.q in cross_fits p.x p.y q.x q.y c.requires.first c.requires.second

pub returns-clause-value : goal.returns-clause-value
returns-clause-value c = let p = c.args.p in let q = c.args.q in cross_held p.x p.y q.x q.y c.requires.first c.requires.second

pub returns-clause-bound : goal.returns-clause-bound
returns-clause-bound c = let p = c.args.p in let q = c.args.q in cross_bound p.x p.y q.x q.y c.requires.first c.requires.second
