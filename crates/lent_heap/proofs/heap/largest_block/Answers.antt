use Rattle.lent_heap.proofs.Sizes.{is_within}
use Rattle.lent_heap.proofs.heap.largest_block.Goals as goal

pub returns : goal.returns
returns c =
    let next = c.next_power_of_two.ensures in
    is_within c.args.size c.next_power_of_two.result c.requires next.power next.lower_bound next.upper_bound
