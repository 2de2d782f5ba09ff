use Rattle.dcel_maps.proofs.removal.RingLists.{IsFinding}
use Rattle.spade_dcel.proofs.dcel.Dcel.finds_each.Given as goal

abbrev pub invariant-loop-out_edge : goal.invariant-loop-out_edge
invariant-loop-out_edge g l = IsFinding l.self l.fn.vertex l.fn.edges l.fn.faces l.out_edge-iterator.items
