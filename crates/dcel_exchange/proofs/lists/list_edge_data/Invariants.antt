use Rattle.std.proofs.Common.{◌≡◌, ◌*◌, take}
use Rattle.dcel_exchange.proofs.lists.list_edge_data.Given as goal
use Rattle.dcel_store.specs.EdgeLists.{edges_data, halves_data}

abbrev pub invariant-loop-number : goal.invariant-loop-number
invariant-loop-number g l = record {
  halves : halves_data l.list.items ≡ take (2 * l.number) l.dcel.directed_data;
  edges : edges_data l.list.items ≡ take l.number l.dcel.undirected_data;
}
