use Rattle.std.proofs.Common.{◌-◌, length}
use Rattle.dcel_links.proofs.Searching.{Searches}
use Rattle.dcel_links.proofs.search.find_cut_off.Given as goal

abbrev pub invariant-loop-head : goal.invariant-loop-head
invariant-loop-head l = Searches l.next l.marks l.order l.head l.tail

abbrev pub decreases-loop-head : goal.decreases-loop-head
decreases-loop-head l = length l.next - l.head
