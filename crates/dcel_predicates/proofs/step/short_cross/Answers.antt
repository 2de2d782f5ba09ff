use Rattle.dcel_predicates.proofs.step.short_cross.Goals as goal
use Rattle.dcel_predicates.proofs.Sums.{short_difference_fits, short_difference_held, short_difference_bound}

pub overflow_sub-result : goal.overflow_sub-result
overflow_sub-result c = let p = c.args.p in let q = c.args.q in let r = c.requires in short_difference_fits p.x q.y p.y q.x r.first.across r.second.up r.first.up r.second.across

pub returns-clause-value : goal.returns-clause-value
returns-clause-value c = let p = c.args.p in let q = c.args.q in let r = c.requires in short_difference_held p.x q.y p.y q.x r.first.across r.second.up r.first.up r.second.across

pub returns-clause-bound : goal.returns-clause-bound
returns-clause-bound c = let p = c.args.p in let q = c.args.q in let r = c.requires in short_difference_bound p.x q.y p.y q.x r.first.across r.second.up r.first.up r.second.across
