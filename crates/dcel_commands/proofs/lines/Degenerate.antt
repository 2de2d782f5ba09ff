-- What is so of `degenerate V`.
use Rattle.std.proofs.Common.{◌≡◌, ◌==◌, ◌/◌, ℕ, inl, refl, sym, ◌∙◌}
use Rattle.std.proofs.lemmas.Bool.{cond_both}
use Rattle.dcel_commands.proofs.Columns.{is_column}
use Rattle.dcel_commands.proofs.Lawful.{Lawful, all_triangles, record_of}
use Rattle.dcel_commands.specs.Instructions.{Degenerate}
use Rattle.dcel_maps.proofs.Triangulations as triangulations
use Rattle.dcel_maps.proofs.lists.Removing.{degenerate_listed}
use Rattle.dcel_maps.specs.Removals.{Closed}
use Rattle.dcel_maps.specs.Renumbering.{edge_taken_out, vertex_taken_out}
use Rattle.dcel_maps.specs.Shapes.{Mesh}
use Rattle.dcel_maps.specs.edits.Degenerate.{going, path_given_up, removed_degenerate}

degenerate-record : {V DE UE F : Type 0} (m : Mesh V DE UE F) (v : ℕ) → (removed_degenerate m v).shape.removal ≡ Closed
degenerate-record m v =
    cond_both (m.shape.vertices == 1) (vertex_taken_out m v) (vertex_taken_out (edge_taken_out (path_given_up m v) (going m v / 2)) v)
    (λ t. t.shape.removal ≡ Closed) (λ one. refl) (λ more. refl)

pub degenerate : {V : Type 0} (v : ℕ) → Lawful {V = V} (Degenerate v)
unfolding is_column
degenerate v = record {
  column = λ limit. refl;
  edits = λ m new mesh c small. degenerate_listed m mesh v c.legal.1.1.0 new c.step.1;
  triangles = λ m new mesh c all. inl (all_triangles new _ c.step.1 (triangulations.degenerate_gone m all c.legal.1.0 v));
  removal = λ m new c. record_of new _ _ c.step.1 (degenerate-record m v ∙ sym c.legal.1.0);
}
