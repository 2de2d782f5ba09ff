-- `degenerate V`: V goes from a mesh that is one vertex or a path, with an edge of it, if it has one.
use Rattle.std.specs.Prelude.{◌≡◌, ℕ, false, [], ◌∷◌, codes}
use Rattle.dcel_commands.specs.declared.commands.reply.Handed.TheVariants.{Nothing}
use Rattle.dcel_commands.specs.declared.refusal.Refusal.TheVariants.{NoSuchVertex, RemovalOpen, NotPath}
use Rattle.dcel_commands.specs.Conditions.{VertexInRange, NoneOpen, OfPath}
use Rattle.dcel_commands.specs.Grammar.{Number}
use Rattle.dcel_commands.specs.Rules.{CommandRule}
use Rattle.dcel_commands.specs.request.Remove.{TellsRemoved}
use Rattle.dcel_maps.specs.EditLists.{path_shortened}
use Rattle.dcel_maps.specs.edits.Degenerate.{removed_degenerate}

abbrev pub degenerate : {V : Type 0} → ℕ → CommandRule V
degenerate v = record {
  word = codes "degenerate";
  given = Number v ∷ [];
  asks = λ limit.
      (NoSuchVertex, VertexInRange v)
      ∷ (RemovalOpen, NoneOpen)
      ∷ (NotPath, OfPath v)
      ∷ [];
  takes_memory = false;
  edits = λ m reply. path_shortened m v;
  handed = Nothing;
  Makes = λ is_half is_edge is_face old reply new.
      TellsRemoved old.vertex_data old.shape.vertices v reply × (new ≡ removed_degenerate old v);
}
