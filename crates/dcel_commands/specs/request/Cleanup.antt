-- `cleanup U.. / F..`: what the open removal has given up is taken out, all but its vertex; one that has none is closed.
use Rattle.std.specs.Prelude.{◌≡◌, ℕ, false, List, [], ◌∷◌, ◌++◌, codes}
use Rattle.dcel_commands.specs.declared.commands.reply.Handed.TheVariants.{Nothing}
use Rattle.dcel_commands.specs.declared.refusal.Refusal.TheVariants.{NoRemoval, WrongLists}
use Rattle.dcel_commands.specs.Asking.{edges_and_faces}
use Rattle.dcel_commands.specs.Conditions.{NotCleaned, Listed}
use Rattle.dcel_commands.specs.Grammar.{Slash, numbers}
use Rattle.dcel_commands.specs.Responses.{Done}
use Rattle.dcel_commands.specs.Rules.{CommandRule}
use Rattle.dcel_maps.specs.EditLists.EditKind.{numbers_changed}
use Rattle.dcel_maps.specs.Renumbering.{cleaned_up}

abbrev pub cleanup : {V : Type 0} → List ℕ → List ℕ → CommandRule V
cleanup us fs = record {
  word = codes "cleanup";
  given = numbers us ++ Slash ∷ numbers fs;
  asks = λ limit.
      edges_and_faces us fs
      ++ (NoRemoval, NotCleaned)
      ∷ (WrongLists, Listed us fs)
      ∷ [];
  takes_memory = false;
  edits = λ m reply. numbers_changed ∷ [];
  handed = Nothing;
  Makes = λ is_half is_edge is_face old reply new. (reply ≡ Done) × (new ≡ cleaned_up old);
}
