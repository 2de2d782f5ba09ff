-- What is so of `half H B`.
use Rattle.std.proofs.Common.{◌≡◌, ℕ, inl, inr, refl, arith}
use Rattle.std.proofs.lemmas.Bool.{cases_lt}
use Rattle.dcel_commands.proofs.Columns.{is_column}
use Rattle.dcel_commands.proofs.Lawful.{Lawful, all_triangles, record_of, room}
use Rattle.dcel_commands.specs.Instructions.{Half}
use Rattle.dcel_fixed.specs.HalfEdges.{rev}
use Rattle.dcel_maps.proofs.Triangulations as triangulations
use Rattle.dcel_maps.proofs.lists.Growing.{half_listed}
use Rattle.dcel_maps.specs.Shapes.{face_of}

pub half : {V : Type 0} (h b : ℕ) → Lawful {V = V} (Half h b)
unfolding is_column
half h b = record {
  column = λ limit. refl;
  edits = λ m new mesh c small.
      half_listed m mesh new h b c.step.1 c.legal.1.1.0 c.legal.1.1.1.1.1.0 c.legal.1.1.1.1.0 (room m.shape _ 0 2 1 small c.legal.1.1.1.1.1.1.0);
  triangles = λ m new mesh c all.
      let e = c.step.1 in
      elim (cases_lt 0 (face_of m.shape (rev h))) [
        | inl inner ↦ inr inner
        | inr not ↦ let outer : face_of m.shape (rev h) ≡ 0 = omega (arith, not) in
            inl (all_triangles new _ e.is (triangulations.split_one_side m all h b e.directed_data e.undirected_data e.face_data outer))
      ];
  removal = λ m new c. record_of new _ _ c.step.1.is refl;
}
