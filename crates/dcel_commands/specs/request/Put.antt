-- `put V D`: D in place of the datum of V.
use Rattle.std.specs.Prelude.{◌≡◌, ℕ, false, [], ◌∷◌, codes}
use Rattle.dcel_commands.specs.declared.commands.reply.Handed.TheVariants.{One}
use Rattle.dcel_commands.specs.Responses.{Done}
use Rattle.dcel_commands.specs.declared.refusal.Refusal.TheVariants.{NoSuchVertex}
use Rattle.dcel_commands.specs.Conditions.{VertexInRange}
use Rattle.dcel_commands.specs.Grammar.{Number, Datum}
use Rattle.dcel_commands.specs.Rules.{CommandRule}
use Rattle.dcel_maps.specs.edits.Data.{vertex_updated}

abbrev pub put : {V : Type 0} → ℕ → V → CommandRule V
put v datum = record {
  word = codes "put";
  given = Number v ∷ Datum datum ∷ [];
  asks = λ limit. (NoSuchVertex, VertexInRange v) ∷ [];
  takes_memory = false;
  edits = λ m reply. [];
  handed = One datum;
  Makes = λ is_half is_edge is_face old reply new. (reply ≡ Done) × (new ≡ vertex_updated old v datum);
}
