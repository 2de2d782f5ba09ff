-- What is so of `outside H B`.
use Rattle.std.proofs.Common.{◌≡◌, ℕ, inl, inr, refl, arith}
use Rattle.std.proofs.lemmas.Bool.{cases_lt}
use Rattle.dcel_commands.proofs.Columns.{is_column}
use Rattle.dcel_commands.proofs.Lawful.{Lawful, all_triangles, record_of, room}
use Rattle.dcel_commands.specs.Instructions.{Outside}
use Rattle.dcel_maps.proofs.Triangulations as triangulations
use Rattle.dcel_maps.proofs.lists.Growing.{beside_listed}
use Rattle.dcel_maps.specs.Shapes.{face_of}

pub outside : {V : Type 0} (h b : ℕ) → Lawful {V = V} (Outside h b)
unfolding is_column
outside h b = record {
  column = λ limit. refl;
  edits = λ m new mesh c small.
      beside_listed m mesh new h b c.step.1 c.legal.1.1.0 c.legal.1.1.1.1.0 (room m.shape _ 0 2 1 small c.legal.1.1.1.1.1.0);
  triangles = λ m new mesh c all.
      let e = c.step.1 in
      elim (cases_lt 0 (face_of m.shape h)) [
        | inl inner ↦ inr inner
        | inr not ↦ let outer : face_of m.shape h ≡ 0 = omega (arith, not) in
            inl (all_triangles new _ e.is (triangulations.put_beside m all h b e.directed_data e.undirected_data e.face_data outer))
      ];
  removal = λ m new c. record_of new _ _ c.step.1.is refl;
}
