use Rattle.dcel_exchange.proofs.ListedData.{next_edges, next_halves}
use Rattle.dcel_exchange.proofs.lists.list_edge_data.Goals as goal

pub loop-number-preserved : goal.loop-number-preserved
loop-number-preserved g c = record {
  halves = next_halves c.args.dcel.now.directed_data c.loop-number.list.items c.push.new.self.items c.loop-number.number c.data_of.result c.in_ok-push.ensures.items
      c.loop-number.invariant.halves (rw c.new.ensures at c.data_of.ensures.normalized) (rw c.new.ensures at c.data_of.ensures.reversed);
  edges = next_edges c.args.dcel.now.undirected_data c.loop-number.list.items c.push.new.self.items c.loop-number.number c.data_of.result c.in_ok-push.ensures.items
      c.loop-number.invariant.edges (rw c.new.ensures at c.data_of.ensures.undirected);
}
