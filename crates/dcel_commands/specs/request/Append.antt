-- `append D`: one more vertex, without an edge.
use Rattle.std.specs.Prelude.{◌≡◌, true, [], ◌∷◌, codes}
use Rattle.dcel_commands.specs.declared.commands.reply.Handed.TheVariants.{One}
use Rattle.dcel_commands.specs.Responses.{Vertex}
use Rattle.dcel_commands.specs.declared.refusal.Refusal.TheVariants.{NoRoom}
use Rattle.dcel_commands.specs.Conditions.{RoomFor}
use Rattle.dcel_commands.specs.Grammar.{Datum}
use Rattle.dcel_commands.specs.Rules.{CommandRule}
use Rattle.dcel_maps.specs.edits.Create.{vertex_appended}

abbrev pub append : {V : Type 0} → V → CommandRule V
append datum = record {
  word = codes "append";
  given = Datum datum ∷ [];
  asks = λ limit. (NoRoom, RoomFor limit 1 0 0) ∷ [];
  takes_memory = true;
  edits = λ m reply. [];
  handed = One datum;
  Makes = λ is_half is_edge is_face old reply new. (reply ≡ Vertex old.shape.vertices) × (new ≡ vertex_appended old datum);
}
