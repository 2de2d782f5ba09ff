-- What is so of `split H B`.
use Rattle.std.proofs.Common.{ℕ, inl, refl}
use Rattle.dcel_commands.proofs.Columns.{is_column}
use Rattle.dcel_commands.proofs.Lawful.{Lawful, all_triangles, record_of, room}
use Rattle.dcel_commands.specs.Instructions.{Split}
use Rattle.dcel_maps.proofs.Triangulations as triangulations
use Rattle.dcel_maps.proofs.lists.Growing.{both_listed}

pub split : {V : Type 0} (h b : ℕ) → Lawful {V = V} (Split h b)
unfolding is_column
split h b = record {
  column = λ limit. refl;
  edits = λ m new mesh c small.
      both_listed m mesh new h b c.step.1 c.legal.1.1.0 c.legal.1.1.1.1.1.0 c.legal.1.1.1.1.1.1.0 c.legal.1.1.1.1.0
      (room m.shape _ 0 3 2 small c.legal.1.1.1.1.1.1.1.0);
  triangles = λ m new mesh c all.
      let e = c.step.1 in
      inl (all_triangles new _ e.is (triangulations.split_both_sides m all h b e.directed_data e.undirected_data e.face_data));
  removal = λ m new c. record_of new _ _ c.step.1.is refl;
}
