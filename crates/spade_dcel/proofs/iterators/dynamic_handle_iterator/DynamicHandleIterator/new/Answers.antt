use Rattle.dcel_maps.proofs.walks.Numbers.{numbers-below}
use Rattle.spade_dcel.proofs.iterators.dynamic_handle_iterator.DynamicHandleIterator.new.Goals as goal

pub invariant_of-result : goal.invariant_of-result
invariant_of-result g c = rw (c.new.ensures.items, ← c.num_elements.ensures.count) (numbers-below c.num_elements.result)
