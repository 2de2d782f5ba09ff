use Rattle.dcel_constrained.proofs.Intersected.{back_nearest, back_within, forth_nearest, forth_within}
use Rattle.dcel_constrained.proofs.crossing.nearest.Goals as goal

pub returns-then-to-from-clause-value : goal.returns-then-to-from-clause-value
returns-then-to-from-clause-value c =
    let r = c.rounded in
    back_nearest c.args.from c.args.to c.args.along c.args.weight r.result c.requires.from c.requires.to c.requires.after c.requires.before c.requires.weight r.ensures.least r.ensures.value r.ensures.most

pub returns-then-to-from-clause-bound : goal.returns-then-to-from-clause-bound
returns-then-to-from-clause-bound c =
    let r = c.rounded in
    back_within c.args.from c.args.to c.args.along c.args.weight r.result c.requires.from c.requires.to c.requires.after c.requires.before c.requires.weight r.ensures.least r.ensures.value r.ensures.most

pub returns-else-to-from-clause-value : goal.returns-else-to-from-clause-value
returns-else-to-from-clause-value c =
    let r = c.rounded-else-to-from in
    forth_nearest c.args.from c.args.to c.args.along c.args.weight r.result c.requires.from c.requires.to c.requires.after c.requires.before c.requires.weight r.ensures.least r.ensures.value r.ensures.most

pub returns-else-to-from-clause-bound : goal.returns-else-to-from-clause-bound
returns-else-to-from-clause-bound c =
    let r = c.rounded-else-to-from in
    forth_within c.args.from c.args.to c.args.along c.args.weight r.result c.requires.from c.requires.to c.requires.after c.requires.before c.requires.weight r.ensures.least r.ensures.value r.ensures.most
