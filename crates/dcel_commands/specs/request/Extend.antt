-- `extend A B`: the line that ends at A goes on to B.
use Rattle.std.specs.Prelude.{◌≡◌, ℕ, true, [], ◌∷◌, ◌++◌, codes}
use Rattle.dcel_commands.specs.declared.commands.reply.Handed.TheVariants.{Nothing}
use Rattle.dcel_commands.specs.declared.refusal.Refusal.TheVariants.{VertexInUse, NotLineEnd, NoRoom}
use Rattle.dcel_commands.specs.Asking.{two_vertices}
use Rattle.dcel_commands.specs.Conditions.{Unconnected, LineEnd, RoomFor}
use Rattle.dcel_commands.specs.Grammar.{Number}
use Rattle.dcel_commands.specs.Responses.{Vertex}
use Rattle.dcel_commands.specs.Rules.{CommandRule}
use Rattle.dcel_maps.specs.EditLists.EditKind.{spur_added}
use Rattle.dcel_maps.specs.edits.DefaultData.{AddsEdge}
use Rattle.dcel_maps.specs.edits.Line.{line_extended}

abbrev pub extend : {V : Type 0} → ℕ → ℕ → CommandRule V
extend a b = record {
  word = codes "extend";
  given = Number a ∷ Number b ∷ [];
  asks = λ limit.
      two_vertices a b
      ++ (VertexInUse, Unconnected b)
      ∷ (NotLineEnd, LineEnd a)
      ∷ (NoRoom, RoomFor limit 0 1 0)
      ∷ [];
  takes_memory = true;
  edits = λ m reply. spur_added ∷ [];
  handed = Nothing;
  Makes = λ is_half is_edge is_face old reply new. (reply ≡ Vertex b) × AddsEdge is_half is_edge new (line_extended old a b);
}
