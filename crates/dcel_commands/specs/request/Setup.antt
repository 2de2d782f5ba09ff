-- `setup A B`: the first edge, from A to B.
use Rattle.std.specs.Prelude.{◌≡◌, ℕ, true, [], ◌∷◌, ◌++◌, codes}
use Rattle.dcel_commands.specs.declared.commands.reply.Handed.TheVariants.{Nothing}
use Rattle.dcel_commands.specs.declared.refusal.Refusal.TheVariants.{EdgesStand, NoRoom}
use Rattle.dcel_commands.specs.Asking.{two_vertices}
use Rattle.dcel_commands.specs.Conditions.{NoEdge, RoomFor}
use Rattle.dcel_commands.specs.Grammar.{Number}
use Rattle.dcel_commands.specs.Responses.{Done}
use Rattle.dcel_commands.specs.Rules.{CommandRule}
use Rattle.dcel_maps.specs.EditLists.EditKind.{first_edge}
use Rattle.dcel_maps.specs.edits.Create.{first_edge_added}
use Rattle.dcel_maps.specs.edits.DefaultData.{AddsEdge}

abbrev pub setup : {V : Type 0} → ℕ → ℕ → CommandRule V
setup a b = record {
  word = codes "setup";
  given = Number a ∷ Number b ∷ [];
  asks = λ limit.
      two_vertices a b
      ++ (EdgesStand, NoEdge)
      ∷ (NoRoom, RoomFor limit 0 1 0)
      ∷ [];
  takes_memory = true;
  edits = λ m reply. first_edge ∷ [];
  handed = Nothing;
  Makes = λ is_half is_edge is_face old reply new. (reply ≡ Done) × AddsEdge is_half is_edge new (first_edge_added old a b);
}
