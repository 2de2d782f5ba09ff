use Rattle.std.proofs.Common.{◌≡◌, ◌+◌, ◌*◌, ◌≤◌, drop, length}
use Rattle.std.specs.Vec.Iter.{into_iter_items}
use Rattle.dcel_edits.specs.Given.{edges_stored}
use Rattle.dcel_edits.proofs.given.put_edges.Given as goal

-- with what is left of the lists and the data, all are appended
abbrev pub invariant-loop-edge_data : goal.invariant-loop-edge_data
invariant-loop-edge_data g l =
    let left = into_iter_items l.edge_data-iterator in
    record {
      room : length left ≤ l.store.edge_room;
      at : l.half + 2 * length left ≡ length l.fn.next;
      stored : edges_stored l.store (drop l.half l.fn.next) (drop l.half l.fn.prev) (drop l.half l.fn.origin) (drop l.half l.fn.face) left
          ≡ edges_stored l.fn.store l.fn.next l.fn.prev l.fn.origin l.fn.face l.fn.edges.items;
    }
