-- What is so of `strip H..`.
use Rattle.std.proofs.Common.{ℕ, List, inl, refl}
use Rattle.dcel_commands.proofs.Columns.{is_column}
use Rattle.dcel_commands.proofs.Lawful.{Lawful, all_triangles, record_of}
use Rattle.dcel_commands.specs.Instructions.{Strip}
use Rattle.dcel_maps.proofs.Triangulations as triangulations
use Rattle.dcel_maps.proofs.lists.Removing.{strip_listed}

pub strip : {V : Type 0} (hs : List ℕ) → Lawful {V = V} (Strip hs)
unfolding is_column
strip hs = record {
  column = λ limit. refl;
  edits = λ m new mesh c small. strip_listed m mesh new hs c.step.1 c.legal.1.0 c.legal.1.1.0;
  triangles = λ m new mesh c all. inl (all_triangles new _ c.step.1 (triangulations.strip_off m all c.legal.1.0 hs));
  removal = λ m new c. record_of new _ _ c.step.1 refl;
}
