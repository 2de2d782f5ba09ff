use Rattle.dcel_exchange.proofs.Listing.{Gathers}
use Rattle.dcel_exchange.proofs.lists.link_lists.Given as goal

abbrev pub invariant-loop-link : goal.invariant-loop-link
invariant-loop-link g l = record {
  next : Gathers (λ link. link.next) l.dcel.shape l.next.items l.link-iterator;
  origin : Gathers (λ link. link.origin) l.dcel.shape l.origin.items l.link-iterator;
  face : Gathers (λ link. link.face) l.dcel.shape l.face.items l.link-iterator;
}
