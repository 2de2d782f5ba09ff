-- What is so of `close H`.
use Rattle.std.proofs.Common.{ℕ, inl, refl}
use Rattle.dcel_commands.proofs.Columns.{is_column}
use Rattle.dcel_commands.proofs.Lawful.{Lawful, all_triangles, record_of, room}
use Rattle.dcel_commands.specs.Instructions.{Close}
use Rattle.dcel_maps.proofs.Triangulations as triangulations
use Rattle.dcel_maps.proofs.lists.Growing.{close_listed}

pub close : {V : Type 0} (h : ℕ) → Lawful {V = V} (Close h)
unfolding is_column
close h = record {
  column = λ limit. refl;
  edits = λ m new mesh c small. close_listed m mesh new h c.step.1 c.legal.1.1.1.0 (room m.shape _ 0 1 1 small c.legal.1.1.1.1.0);
  triangles = λ m new mesh c all.
      let e = c.step.1 in
      inl (all_triangles new _ e.is (triangulations.closed_outside m all h e.directed_data e.undirected_data e.face_data));
  removal = λ m new c. record_of new _ _ c.step.1.is refl;
}
