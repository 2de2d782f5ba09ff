use Rattle.std.proofs.Common.{◌≡◌, ◌≤◌, length}
use Rattle.std.specs.Vec.Iter.{into_iter_items}
use Rattle.dcel_edits.specs.Given.{faces_stored}
use Rattle.dcel_edits.proofs.given.put_faces.Given as goal

-- with what is left, all are appended
abbrev pub invariant-loop-datum : goal.invariant-loop-datum
invariant-loop-datum g l =
    let left = into_iter_items l.datum-iterator in
    record {
      room : length left ≤ l.store.face_room;
      stored : faces_stored l.store left ≡ faces_stored l.fn.store l.fn.faces.items;
    }
