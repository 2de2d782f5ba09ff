-- What is so of `remesh H.. / U.. / F..`.
use Rattle.std.proofs.Common.{ℕ, List, reverse, inl, refl, arith}
use Rattle.std.proofs.lemmas.List.{length-reverse}
use Rattle.dcel_commands.proofs.Columns.{is_column}
use Rattle.dcel_commands.proofs.Lawful.{Lawful, all_triangles, record_of}
use Rattle.dcel_commands.specs.Instructions.{Remesh}
use Rattle.dcel_commands.specs.OneRemoval.{record_after}
use Rattle.dcel_maps.proofs.Triangulations as triangulations
use Rattle.dcel_maps.proofs.lists.Filling.{remesh_listed}
use Rattle.dcel_maps.proofs.removal.Insides.{filled-record, many_items}
use Rattle.dcel_maps.specs.Regions.{inside}
use Rattle.dcel_maps.specs.Removals.{opened_with}

pub remesh : {V : Type 0} (hs us fs : List ℕ) → Lawful {V = V} (Remesh hs us fs)
unfolding is_column
remesh hs us fs = record {
  column = λ limit. refl;
  edits = λ m new mesh c small. remesh_listed m mesh c.legal.1.1.1.0 hs new us fs c.step.1 c.legal.1.1.1.1.0;
  triangles = λ m new mesh c all.
      let e = c.step.1 in
      inl (all_triangles new _ e.is (triangulations.ring_filled_in m all c.legal.1.1.1.0 (opened_with us fs (inside m.shape hs us fs)) (reverse hs) e.directed_data e.undirected_data e.face_data));
  removal = λ m new c.
      let e = c.step.1 in
      record_of new _ _ e.is (filled-record m (record_after m (Remesh hs us fs)) (reverse hs)
      (omega (arith, many_items m.shape hs us fs c.legal.1.1.1.1.0, length-reverse hs)) e.directed_data e.undirected_data e.face_data);
}
