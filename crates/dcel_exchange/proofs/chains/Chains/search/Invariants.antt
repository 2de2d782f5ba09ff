use Rattle.std.proofs.Common.{◌≡◌, length, slice_index}
use Rattle.dcel_fixed.specs.HalfEdges.{rev}
use Rattle.dcel_exchange.specs.Chains.{HangsAt}
use Rattle.dcel_exchange.proofs.Chained.{HasPassed, left}
use Rattle.dcel_exchange.proofs.chains.Chains.search.Given as goal

abbrev pub invariant-loop-next : goal.invariant-loop-next
invariant-loop-next g l =
    HasPassed (HangsAt l.self.starts.items l.origin l.end) (λ h. slice_index l.origin (rev h) ≡ l.other) (length l.origin) l.next

abbrev pub decreases-loop-next : goal.decreases-loop-next
decreases-loop-next g l = left l.next
