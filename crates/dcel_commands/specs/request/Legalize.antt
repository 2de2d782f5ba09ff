-- `legalize N U..`: edges are flipped, at most N, from these on, where the lesser of the opposite corners is below the lesser of the ends.
use Rattle.std.specs.Prelude.{ℕ, false, List, [], ◌∷◌, codes}
use Rattle.dcel_commands.specs.declared.commands.reply.Handed.TheVariants.{Nothing}
use Rattle.dcel_commands.specs.declared.refusal.Refusal.TheVariants.{NoSuchEdge}
use Rattle.dcel_commands.specs.Conditions.{EdgesInRange}
use Rattle.dcel_commands.specs.Grammar.{Number, numbers}
use Rattle.dcel_commands.specs.Responses.{Response, Flips}
use Rattle.dcel_commands.specs.Rules.{CommandRule}
use Rattle.dcel_legalize.specs.ByNumber.{MakesFlips}
use Rattle.dcel_legalize.specs.Outcome.{flips_told}
use Rattle.dcel_maps.specs.EditLists.{EditKind, flip_edits}
use Rattle.dcel_maps.specs.Shapes.{Mesh}

-- the reply tells of the flips that lead from the old mesh to the new one
abbrev pub TellsFlips : {V DE UE F : Type 0} → Mesh V DE UE F → List ℕ → ℕ → Response V → Mesh V DE UE F → Type 0
TellsFlips old us n (Flips legalized) new = MakesFlips old us n legalized new
TellsFlips old us n _ new = ⊥

-- as many flips as a reply tells
abbrev pub flips_in : {V : Type 0} → Response V → List EditKind
flips_in (Flips legalized) = flip_edits (flips_told legalized)
flips_in _ = []

abbrev pub legalize : {V : Type 0} → ℕ → List ℕ → CommandRule V
legalize n us = record {
  word = codes "legalize";
  given = Number n ∷ numbers us;
  asks = λ limit. (NoSuchEdge, EdgesInRange us) ∷ [];
  takes_memory = false;
  edits = λ m reply. flips_in reply;
  handed = Nothing;
  Makes = λ is_half is_edge is_face old reply new. TellsFlips old us n reply new;
}
