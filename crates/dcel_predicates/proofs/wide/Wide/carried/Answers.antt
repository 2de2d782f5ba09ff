use Rattle.dcel_predicates.proofs.wide.Wide.carried.Goals as goal
use Rattle.dcel_predicates.proofs.Carries.{carried_is, top_fits}

pub overflow_add-result : goal.overflow_add-result
overflow_add-result c =
    let low = c.of-low.result in
    let middle = c.of-middle.result in
    top_fits c.args.high c.args.middle c.args.low low.carry middle.carry middle.digit low.digit c.requires.high c.requires.middle c.requires.low low.carry_in_range middle.carry_in_range

pub returns : goal.returns
returns c =
    let low = c.of-low.result in
    let middle = c.of-middle.result in
    carried_is c.args.high c.args.middle c.args.low low.carry middle.carry middle.digit low.digit c.requires.high c.requires.middle c.requires.low low.carry_in_range middle.carry_in_range
    c.of-low.ensures c.of-middle.ensures
