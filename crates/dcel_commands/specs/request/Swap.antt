-- `swap A B`: what starts at A starts at B, and the other way round, and their data are exchanged.
use Rattle.std.specs.Prelude.{◌≡◌, ℕ, false, [], ◌∷◌, codes}
use Rattle.dcel_commands.specs.declared.commands.reply.Handed.TheVariants.{Nothing}
use Rattle.dcel_commands.specs.Asking.{live_vertices}
use Rattle.dcel_commands.specs.Grammar.{Number}
use Rattle.dcel_commands.specs.Responses.{Done}
use Rattle.dcel_commands.specs.Rules.{CommandRule}
use Rattle.dcel_maps.specs.EditLists.EditKind.{numbers_changed}
use Rattle.dcel_maps.specs.edits.Rename.{vertices_swapped}

abbrev pub swap : {V : Type 0} → ℕ → ℕ → CommandRule V
swap a b = record {
  word = codes "swap";
  given = Number a ∷ Number b ∷ [];
  asks = λ limit. live_vertices a b;
  takes_memory = false;
  edits = λ m reply. numbers_changed ∷ [];
  handed = Nothing;
  Makes = λ is_half is_edge is_face old reply new. (reply ≡ Done) × (new ≡ vertices_swapped old a b);
}
