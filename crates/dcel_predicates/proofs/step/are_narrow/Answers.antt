use Rattle.dcel_predicates.proofs.step.are_narrow.Goals as goal
use Rattle.dcel_predicates.proofs.Narrow.{all_narrow}

pub returns : goal.returns
returns c =
    all_narrow c.width.result c.width-2.result c.width-3.result c.width-4.result c.width.ensures c.width-2.ensures c.width-3.ensures c.width-4.ensures
