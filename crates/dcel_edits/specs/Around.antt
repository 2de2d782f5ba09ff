-- What the stored links lead to round an edge, by short names.
use Rattle.std.specs.Prelude.{ℕ, ◌*◌, length, slice_index}
use Rattle.dcel_fixed.specs.HalfEdges.{rev}
use Rattle.dcel_store.specs.Lists.{Lists}
use Rattle.dcel_maps.specs.Around.{Around}

abbrev pub stored_around : {V DE UE F : Type 0} → Lists V DE UE F → ℕ → Around
stored_around s e =
    let t = rev e in
    record {
      n = 2 * length s.undirected_data;
      l = length s.face_data;
      t = t;
      f = slice_index s.face e;
      g = slice_index s.face t;
      before = slice_index s.prev e;
      after = slice_index s.next e;
      t_before = slice_index s.prev t;
      t_after = slice_index s.next t;
      start = slice_index s.origin e;
      end = slice_index s.origin t;
    }
