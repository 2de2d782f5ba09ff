use Rattle.std.proofs.Common.{◌≡◌, ◌-◌, ◌∙◌, arith}
use Rattle.dcel_maps.proofs.walks.Numbers.{length-numbers}
use Rattle.spade_dcel.proofs.iterators.fixed_handle_iterator.FixedHandleIterator.new.Goals as goal

pub returns-clause-count : goal.returns-clause-count
returns-clause-count g c = let whole : c.args.to - 0 ≡ c.args.to = omega arith in length-numbers 0 c.args.to ∙ whole
