-- What is so of `insert B F`.
use Rattle.std.proofs.Common.{ℕ, inl, refl}
use Rattle.dcel_commands.proofs.Columns.{is_column}
use Rattle.dcel_commands.proofs.Lawful.{Lawful, all_triangles, record_of, room}
use Rattle.dcel_commands.specs.Instructions.{Insert}
use Rattle.dcel_maps.proofs.Triangulations as triangulations
use Rattle.dcel_maps.proofs.lists.Growing.{insert_listed}

pub insert : {V : Type 0} (v f : ℕ) → Lawful {V = V} (Insert v f)
unfolding is_column
insert v f = record {
  column = λ limit. refl;
  edits = λ m new mesh c small.
      insert_listed m mesh new v f c.step.1 c.legal.1.1.1.1.1.0 c.legal.1.1.1.1.0 (room m.shape _ 0 3 2 small c.legal.1.1.1.1.1.1.0);
  triangles = λ m new mesh c all.
      let e = c.step.1 in
      inl (all_triangles new _ e.is (triangulations.inserted m all v f e.directed_data e.undirected_data e.face_data));
  removal = λ m new c. record_of new _ _ c.step.1.is refl;
}
