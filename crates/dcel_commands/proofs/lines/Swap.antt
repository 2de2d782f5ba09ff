-- What is so of `swap A B`.
use Rattle.std.proofs.Common.{ℕ, inl, refl}
use Rattle.dcel_commands.proofs.Columns.{is_column}
use Rattle.dcel_commands.proofs.Lawful.{Lawful, all_triangles, record_of}
use Rattle.dcel_commands.specs.Instructions.{Swap}
use Rattle.dcel_maps.proofs.lists.Removing.{swap_listed}

pub swap : {V : Type 0} (a b : ℕ) → Lawful {V = V} (Swap a b)
unfolding is_column
swap a b = record {
  column = λ limit. refl;
  edits = λ m new mesh c small. swap_listed m mesh new a b c.step.1 c.legal.1.1.0 c.legal.1.1.1.0;
  triangles = λ m new mesh c all. inl (all_triangles new _ c.step.1 all);
  removal = λ m new c. record_of new _ _ c.step.1 refl;
}
