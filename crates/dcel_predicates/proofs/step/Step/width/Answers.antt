use Rattle.dcel_predicates.proofs.step.Step.width.Goals as goal
use Rattle.dcel_predicates.proofs.Narrow.{width_is}

pub returns : goal.returns
returns c =
    let s = c.args.self in
    width_is s.x s.y c.cast_unsigned.result c.cast_unsigned-2.result s.x_in_range s.y_in_range c.cast_unsigned.ensures c.cast_unsigned-2.ensures
