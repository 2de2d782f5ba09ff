-- What is so of `line H B`.
use Rattle.std.proofs.Common.{ℕ, inl, refl}
use Rattle.dcel_commands.proofs.Columns.{is_column}
use Rattle.dcel_commands.proofs.Lawful.{Lawful, all_triangles, record_of, room}
use Rattle.dcel_commands.specs.Instructions.{Line}
use Rattle.dcel_maps.proofs.Triangulations as triangulations
use Rattle.dcel_maps.proofs.lists.Growing.{on_line_listed}

pub line : {V : Type 0} (h b : ℕ) → Lawful {V = V} (Line h b)
unfolding is_column
line h b = record {
  column = λ limit. refl;
  edits = λ m new mesh c small.
      on_line_listed m mesh new h b c.step.1 c.legal.1.1.1.1.1.0 c.legal.1.1.1.1.0 (room m.shape _ 0 1 0 small c.legal.1.1.1.1.1.1.0);
  triangles = λ m new mesh c all.
      let e = c.step.1 in
      inl (all_triangles new _ e.is (triangulations.split_on_line m all mesh h b e.directed_data e.undirected_data c.legal.1.1.1.1.1.0));
  removal = λ m new c. record_of new _ _ c.step.1.is refl;
}
