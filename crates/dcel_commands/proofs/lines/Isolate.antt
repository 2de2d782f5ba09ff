-- What is so of `isolate V H..`.
use Rattle.std.proofs.Common.{ℕ, List, reverse, inl, refl, arith}
use Rattle.std.proofs.lemmas.List.{length-reverse}
use Rattle.dcel_commands.proofs.Columns.{is_column}
use Rattle.dcel_commands.proofs.Lawful.{Lawful, all_triangles, record_of}
use Rattle.dcel_commands.specs.Instructions.{Isolate}
use Rattle.dcel_commands.specs.OneRemoval.{record_after}
use Rattle.dcel_maps.proofs.Triangulations as triangulations
use Rattle.dcel_maps.proofs.lists.Filling.{isolate_listed}
use Rattle.dcel_maps.proofs.removal.Insides.{filled-record}
use Rattle.dcel_maps.specs.Removals.{opened}
use Rattle.dcel_maps.specs.edits.Fill.{edges_at, faces_at}

pub isolate : {V : Type 0} (v : ℕ) (hs : List ℕ) → Lawful {V = V} (Isolate v hs)
unfolding is_column
isolate v hs = record {
  column = λ limit. refl;
  edits = λ m new mesh c small. isolate_listed m mesh c.legal.1.1.0 hs new v c.step.1 c.legal.1.1.1.0;
  triangles = λ m new mesh c all.
      let e = c.step.1 in
      inl (all_triangles new _ e.is (triangulations.ring_filled_in m all c.legal.1.1.0 (opened (edges_at m v) (faces_at m v) v) (reverse hs) e.directed_data e.undirected_data e.face_data));
  removal = λ m new c.
      let e = c.step.1 in
      record_of new _ _ e.is (filled-record m (record_after m (Isolate v hs)) (reverse hs) (omega (arith, c.legal.1.1.1.0.many, length-reverse hs))
      e.directed_data e.undirected_data e.face_data);
}
