-- What is so of `cleanup U.. / F..`.
use Rattle.std.proofs.Common.{ℕ, List, inl, refl}
use Rattle.dcel_commands.proofs.Columns.{is_column}
use Rattle.dcel_commands.proofs.Lawful.{Lawful, all_triangles, record_of}
use Rattle.dcel_commands.specs.Instructions.{Cleanup}
use Rattle.dcel_maps.proofs.Triangulations as triangulations
use Rattle.dcel_maps.proofs.lists.Removing.{cleanup_listed}

pub cleanup : {V : Type 0} (us fs : List ℕ) → Lawful {V = V} (Cleanup us fs)
unfolding is_column
cleanup us fs = record {
  column = λ limit. refl;
  edits = λ m new mesh c small. cleanup_listed m mesh new c.step.1;
  triangles = λ m new mesh c all. inl (all_triangles new _ c.step.1 (triangulations.cleaned m all mesh));
  removal = λ m new c. record_of new _ _ c.step.1 refl;
}
