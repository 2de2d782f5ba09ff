use Rattle.lent_heap.proofs.Sizes.{is_size}
use Rattle.lent_heap.proofs.heap.block_size.Goals as goal

pub returns : goal.returns
returns c =
    let next = c.next_power_of_two.ensures in
    is_size c.args.size c.max.result c.next_power_of_two.result c.max.ensures next.power next.lower_bound next.upper_bound
