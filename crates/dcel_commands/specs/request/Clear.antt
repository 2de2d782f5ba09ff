-- `clear`: no vertex and no edge any more, and no face but the outer one.
use Rattle.std.specs.Prelude.{◌≡◌, false, [], codes, ◌∷◌}
use Rattle.dcel_commands.specs.declared.commands.reply.Handed.TheVariants.{Nothing}
use Rattle.dcel_commands.specs.Responses.{Done}
use Rattle.dcel_commands.specs.Rules.{CommandRule}
use Rattle.dcel_maps.specs.EditLists.EditKind.{emptied}
use Rattle.dcel_maps.specs.edits.Whole.{cleared}

abbrev pub clear : {V : Type 0} → CommandRule V
clear = record {
  word = codes "clear";
  given = [];
  asks = λ limit. [];
  takes_memory = false;
  edits = λ m reply. emptied ∷ [];
  handed = Nothing;
  Makes = λ is_half is_edge is_face old reply new. (reply ≡ Done) × (new ≡ cleared old);
}
