use Rattle.dcel_predicates.proofs.vector.ShortVector.dot.Goals as goal
use Rattle.dcel_predicates.proofs.Sums.{two_fit, three_fit, three_held, three_small}

pub overflow_add-result : goal.overflow_add-result
overflow_add-result c = let p = c.args.self in let q = c.args.other in two_fit p.x q.x p.y q.y p.x_in_range q.x_in_range p.y_in_range q.y_in_range

pub overflow_add-result-2 : goal.overflow_add-result-2
overflow_add-result-2 c =
    let p = c.args.self in
    let q = c.args.other in
    three_fit p.x q.x p.y q.y p.x_in_range q.x_in_range p.y_in_range q.y_in_range p.z q.z p.z_in_range q.z_in_range

pub returns-clause-value : goal.returns-clause-value
returns-clause-value c =
    let p = c.args.self in
    let q = c.args.other in
    three_held p.x q.x p.y q.y p.x_in_range q.x_in_range p.y_in_range q.y_in_range p.z q.z p.z_in_range q.z_in_range

pub returns-clause-bound : goal.returns-clause-bound
returns-clause-bound c =
    let p = c.args.self in
    let q = c.args.other in
    rw (three_held p.x q.x p.y q.y p.x_in_range q.x_in_range p.y_in_range q.y_in_range p.z q.z p.z_in_range q.z_in_range)
    (three_small p.x q.x p.y q.y p.x_in_range q.x_in_range p.y_in_range q.y_in_range p.z q.z p.z_in_range q.z_in_range)
