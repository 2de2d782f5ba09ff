use Rattle.dcel_regions.proofs.Numbers.{free_same, given_up, marked_next, outer, reached}
use Rattle.dcel_regions.proofs.crossings.regions.Goals as goal

pub returns-clause-reached : goal.returns-clause-reached
returns-clause-reached g c =
    reached c.args.dcel.now c.every_mesh.ensures c.number_each.new.numbers.items c.count_from_zero.new.numbers.items c.count_from_zero.ensures
    c.in_ok-number_each.ensures

pub returns-clause-given_up : goal.returns-clause-given_up
returns-clause-given_up g c =
    given_up c.args.dcel.now c.every_mesh.ensures c.number_each.new.numbers.items c.count_from_zero.new.numbers.items c.count_from_zero.ensures
    c.in_ok-number_each.ensures

pub returns-clause-outer : goal.returns-clause-outer
returns-clause-outer g c =
    outer c.args.dcel.now c.every_mesh.ensures c.number_each.new.numbers.items c.count_from_zero.new.numbers.items c.count_from_zero.ensures
    c.in_ok-number_each.ensures

pub returns-clause-free : goal.returns-clause-free
returns-clause-free g c =
    free_same c.args.dcel.now c.every_mesh.ensures c.number_each.new.numbers.items c.count_from_zero.new.numbers.items c.count_from_zero.ensures
    c.in_ok-number_each.ensures

pub returns-clause-marked : goal.returns-clause-marked
returns-clause-marked g c =
    marked_next c.args.dcel.now c.every_mesh.ensures c.number_each.new.numbers.items c.count_from_zero.new.numbers.items c.count_from_zero.ensures
    c.in_ok-number_each.ensures
