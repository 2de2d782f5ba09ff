-- Turning round a vertex from both ends while the half edges on the way are made to start at another one, and going round a face while
-- they are made to lie on another one.
use Rattle.std.proofs.Common.{ℕ, length, slice_index, slice_set, refl}
use Rattle.dcel_store.specs.Lists.{Lists}
use Rattle.dcel_edits.specs.Rename.{ccw_by, cw_by}
use Rattle.dcel_edits.proofs.Rounds.{Part}

module _ {V DE UE F : Type 0} (s : Lists V DE UE F) (v : ℕ) where
  -- the lists with other origins, and with other faces
  abbrev pub origins_part : Part (Lists V DE UE F) v
  origins_part = record {
    put = λ l. record s { origin = l };
    write = λ t h. record t { origin = slice_set t.origin h v };
    step = λ t. ccw_by t.prev;
    step_back = λ t. cw_by t.next;
    halves = λ t. length t.next;
    writes = λ w h. refl;
    steps = λ w l h. refl;
    steps_back = λ w l h. refl;
  }

  abbrev pub faces_part : Part (Lists V DE UE F) v
  faces_part = record {
    put = λ l. record s { face = l };
    write = λ t h. record t { face = slice_set t.face h v };
    step = λ t h. slice_index t.next h;
    step_back = λ t h. slice_index t.prev h;
    halves = λ t. length t.next;
    writes = λ w h. refl;
    steps = λ w l h. refl;
    steps_back = λ w l h. refl;
  }
