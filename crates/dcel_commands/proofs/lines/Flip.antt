-- What is so of `flip U`.
use Rattle.std.proofs.Common.{ℕ, inl, refl}
use Rattle.dcel_commands.proofs.Columns.{is_column}
use Rattle.dcel_commands.proofs.Lawful.{Lawful, all_triangles, record_of}
use Rattle.dcel_commands.specs.Instructions.{Flip}
use Rattle.dcel_maps.proofs.Triangulations as triangulations
use Rattle.dcel_maps.proofs.lists.Growing.{flip_listed}

pub flip : {V : Type 0} (u : ℕ) → Lawful {V = V} (Flip u)
unfolding is_column
flip u = record {
  column = λ limit. refl;
  edits = λ m new mesh c small. flip_listed m mesh u new c.step.1 c.legal.1.1.1.1.0;
  triangles = λ m new mesh c all. inl (all_triangles new _ c.step.1 (triangulations.flipped m all u));
  removal = λ m new c. record_of new _ _ c.step.1 refl;
}
