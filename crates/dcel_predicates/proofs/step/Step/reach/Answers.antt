use Rattle.dcel_predicates.proofs.step.Step.reach.Goals as goal
use Rattle.dcel_predicates.proofs.Reaches.{both_short, both_below}

pub returns-clause-short : goal.returns-clause-short
returns-clause-short c =
    let s = c.args.self in
    both_short s.x s.y c.cast_unsigned.result c.cast_unsigned-2.result s.x_in_range s.y_in_range c.cast_unsigned.ensures c.cast_unsigned-2.ensures

pub returns-clause-long : goal.returns-clause-long
returns-clause-long c =
    let s = c.args.self in
    both_below s.x s.y c.cast_unsigned.result c.cast_unsigned-2.result s.x_in_range s.y_in_range c.cast_unsigned.ensures c.cast_unsigned-2.ensures
