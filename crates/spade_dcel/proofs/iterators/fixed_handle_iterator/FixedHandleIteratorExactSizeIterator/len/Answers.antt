use Rattle.std.proofs.Common.{sym}
use Rattle.dcel_maps.proofs.walks.Numbers.{length-numbers}
use Rattle.spade_dcel.proofs.iterators.fixed_handle_iterator.FixedHandleIteratorExactSizeIterator.len.Goals as goal

pub returns-clause-value : goal.returns-clause-value
returns-clause-value g c = rw (← c.self.view_is) (sym (length-numbers c.self.inside.start c.self.inside.end))
