-- `line H B`: vertex B comes into the middle of H's edge, which is a bridge.
use Rattle.std.specs.Prelude.{◌≡◌, ℕ, ◌*◌, true, [], ◌∷◌, ◌++◌, codes}
use Rattle.dcel_commands.specs.declared.commands.reply.Handed.TheVariants.{Nothing}
use Rattle.dcel_commands.specs.declared.refusal.Refusal.TheVariants.{NotBridge, NoRoom}
use Rattle.dcel_commands.specs.Asking.{edge_and_vertex}
use Rattle.dcel_commands.specs.Conditions.{Bridge, RoomFor}
use Rattle.dcel_commands.specs.Grammar.{Number}
use Rattle.dcel_commands.specs.Responses.{Halves}
use Rattle.dcel_commands.specs.Rules.{CommandRule}
use Rattle.dcel_maps.specs.EditLists.EditKind.{edge_subdivided}
use Rattle.dcel_maps.specs.edits.DefaultData.{AddsEdge}
use Rattle.dcel_maps.specs.edits.Split.{edge_split_on_line}

abbrev pub line : {V : Type 0} → ℕ → ℕ → CommandRule V
line h b = record {
  word = codes "line";
  given = Number h ∷ Number b ∷ [];
  asks = λ limit.
      edge_and_vertex h b
      ++ (NotBridge, Bridge h)
      ∷ (NoRoom, RoomFor limit 0 1 0)
      ∷ [];
  takes_memory = true;
  edits = λ m reply. edge_subdivided ∷ [];
  handed = Nothing;
  Makes = λ is_half is_edge is_face old reply new.
      (reply ≡ Halves (h ∷ 2 * old.shape.edges ∷ [])) × AddsEdge is_half is_edge new (edge_split_on_line old h b);
}
