-- `remove V`: V goes, and the last vertex gets its number.
use Rattle.std.specs.Prelude.{◌≡◌, ℕ, ◌-◌, ◌==◌, false, cond, List, [], ◌∷◌, Option, Some, None, codes, slice_index_or}
use Rattle.dcel_commands.specs.declared.commands.reply.Handed.TheVariants.{Nothing}
use Rattle.dcel_commands.specs.declared.refusal.Refusal.TheVariants.{NoSuchVertex, RemovalOpen, VertexInUse}
use Rattle.dcel_commands.specs.Conditions.{VertexInRange, NoOtherOpen, Removable}
use Rattle.dcel_commands.specs.Grammar.{Number}
use Rattle.dcel_commands.specs.Responses.{Response, Removed}
use Rattle.dcel_commands.specs.Rules.{CommandRule}
use Rattle.dcel_maps.specs.EditLists.EditKind.{numbers_changed}
use Rattle.dcel_maps.specs.Renumbering.{vertex_taken_out}

-- the last of n vertices moves to the place of v, if it is another one
abbrev pub moved_in : ℕ → ℕ → Option ℕ
moved_in n v = cond (v == n - 1) None (Some (n - 1))

-- the reply has the datum of v, and the number of the vertex that moves in
abbrev pub TellsRemoved : {V : Type 0} → List V → ℕ → ℕ → Response V → Type 0
TellsRemoved {V} vertex_data n v reply = (datum : V) × (datum ≡ slice_index_or vertex_data v datum) × (reply ≡ Removed datum (moved_in n v))

abbrev pub remove : {V : Type 0} → ℕ → CommandRule V
remove v = record {
  word = codes "remove";
  given = Number v ∷ [];
  asks = λ limit.
      (NoSuchVertex, VertexInRange v)
      ∷ (RemovalOpen, NoOtherOpen v)
      ∷ (VertexInUse, Removable v)
      ∷ [];
  takes_memory = false;
  edits = λ m reply. numbers_changed ∷ [];
  handed = Nothing;
  Makes = λ is_half is_edge is_face old reply new.
      TellsRemoved old.vertex_data old.shape.vertices v reply × (new ≡ vertex_taken_out old v);
}
