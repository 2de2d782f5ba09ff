-- What is so of `remove V`.
use Rattle.std.proofs.Common.{ℕ, inl, refl}
use Rattle.dcel_commands.proofs.Columns.{is_column}
use Rattle.dcel_commands.proofs.Lawful.{Lawful, all_triangles, record_of}
use Rattle.dcel_commands.specs.Instructions.{Remove}
use Rattle.dcel_maps.proofs.Triangulations as triangulations
use Rattle.dcel_maps.proofs.lists.Removing.{remove_listed}

pub remove : {V : Type 0} (v : ℕ) → Lawful {V = V} (Remove v)
unfolding is_column
remove v = record {
  column = λ limit. refl;
  edits = λ m new mesh c small. remove_listed m mesh new v c.step.1 c.legal.1.1.0;
  triangles = λ m new mesh c all. inl (all_triangles new _ c.step.1 (triangulations.vertex_gone m all v c.legal.1.1.0));
  removal = λ m new c. record_of new _ _ c.step.1 refl;
}
