-- What is so of `append D`.
use Rattle.std.proofs.Common.{inl, refl}
use Rattle.dcel_commands.proofs.Columns.{is_column}
use Rattle.dcel_commands.proofs.Lawful.{Lawful, all_triangles, record_of, room}
use Rattle.dcel_commands.specs.Instructions.{Append}
use Rattle.dcel_maps.proofs.lists.Growing.{append_listed}

pub append : {V : Type 0} (datum : V) → Lawful {V = V} (Append datum)
unfolding is_column
append datum = record {
  column = λ limit. refl;
  edits = λ m new mesh c small. append_listed m mesh datum new c.step.1 (room m.shape _ 1 0 0 small c.legal.0);
  triangles = λ m new mesh c all. inl (all_triangles new _ c.step.1 all);
  removal = λ m new c. record_of new _ _ c.step.1 refl;
}
