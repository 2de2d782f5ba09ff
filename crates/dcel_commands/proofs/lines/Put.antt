-- What is so of `put V D`.
use Rattle.std.proofs.Common.{ℕ, inl, refl, ap}
use Rattle.dcel_commands.proofs.Columns.{is_column}
use Rattle.dcel_commands.proofs.Lawful.{Lawful, all_triangles, record_of, shape_of}
use Rattle.dcel_commands.specs.Instructions.{Put}
use Rattle.dcel_maps.proofs.lists.Made.{stays_listed}

pub put : {V : Type 0} (v : ℕ) (datum : V) → Lawful {V = V} (Put v datum)
unfolding is_column
put v datum = record {
  column = λ limit. refl;
  edits = λ m new mesh c small. stays_listed m.shape new.shape (ap shape_of c.step.1);
  triangles = λ m new mesh c all. inl (all_triangles new _ c.step.1 all);
  removal = λ m new c. record_of new _ _ c.step.1 refl;
}
