-- What is so of `setup A B`.
use Rattle.std.proofs.Common.{ℕ, inl, refl}
use Rattle.dcel_commands.proofs.Columns.{is_column}
use Rattle.dcel_commands.proofs.Lawful.{Lawful, all_triangles, record_of, room}
use Rattle.dcel_commands.specs.Instructions.{Setup}
use Rattle.dcel_maps.proofs.Triangulations as triangulations
use Rattle.dcel_maps.proofs.lists.Growing.{setup_listed}

pub setup : {V : Type 0} (a b : ℕ) → Lawful {V = V} (Setup a b)
unfolding is_column
setup a b = record {
  column = λ limit. refl;
  edits = λ m new mesh c small.
      setup_listed m mesh new a b c.step.1 c.legal.1.1.1.1.1.0 c.legal.1.1.0 c.legal.1.1.1.0 c.legal.1.1.1.1.0 (room m.shape _ 0 1 0 small c.legal.1.1.1.1.1.1.0);
  triangles = λ m new mesh c all.
      let e = c.step.1 in
      inl (all_triangles new _ e.is (triangulations.set_up m all a b e.directed_data e.undirected_data));
  removal = λ m new c. record_of new _ _ c.step.1.is refl;
}
