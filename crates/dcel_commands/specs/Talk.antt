-- What lines may be answered.
use Rattle.std.specs.Prelude.{◌≡◌, ◌⊎◌, ℕ, ℤ, pos, List, [], ◌∷◌, ◌++◌, codes, Result}
use Rattle.dcel_commands.specs.declared.commands.reply.Refused.{Refused}
use Rattle.dcel_commands.specs.declared.commands.query.Query.{Query}
use Rattle.dcel_commands.specs.declared.refusal.Refusal.{Refusal}
use Rattle.dcel_commands.specs.declared.refusal.Refusal.TheVariants.{OutOfMemory}
use Rattle.dcel_commands.specs.Conditions.{Entry, AllMet, FirstUnmet}
use Rattle.dcel_commands.specs.Instructions.{Saying, Edit, Ask, command_rule}
use Rattle.dcel_commands.specs.Facts.{Fact, fact_text}
use Rattle.dcel_commands.specs.Queries.{Tells, query_asks}
use Rattle.dcel_commands.specs.Refusal.{refusal_text}
use Rattle.dcel_commands.specs.Replies.{outcome_text}
use Rattle.dcel_commands.specs.Responses.{Response}
use Rattle.dcel_commands.specs.Rules.{State}
use Rattle.dcel_commands.specs.Spelling.{HasList, Spells}
use Rattle.dcel_text.specs.Texts.{ended}
use Rattle.dcel_commands.specs.Steps.{Carries, asks}
use Rattle.dcel_maps.specs.edits.Create.{outer_alone}

-- the default datum
abbrev pub IsZero : ℤ → Type 0
IsZero d = d ≡ pos 0

-- the mesh before the first line: the outer face alone
abbrev pub start : State
start = outer_alone (pos 0)

-- what is asked under a limit
abbrev pub asked : ℕ → Saying → List Entry
asked limit (Edit command) = asks limit command
asked limit (Ask query) = query_asks query

-- the text is what the query is told, or says by which refusal the first condition that isn't met refuses it
abbrev pub IsTold : State → Query → List ℕ → Type 0
IsTold m query text =
    (AllMet m.shape (query_asks query) × ((fact : Fact ℤ) × Tells m query fact × (text ≡ fact_text fact)))
    ⊎ ((why : Refusal) × FirstUnmet m.shape (query_asks query) why × (text ≡ refusal_text why))

-- a command is carried out or refused, and the text is its outcome; a query changes nothing, and the text tells what it asks
abbrev pub Does : ℕ → State → Saying → List ℕ → State → Type 0
Does limit old (Edit command) text new =
    (outcome : Result (Response ℤ) (Refused ℤ)) × Carries IsZero IsZero IsZero limit old (command_rule command) outcome new × (text ≡ outcome_text outcome)
Does limit old (Ask query) text new = IsTold old query text × (new ≡ old)

-- the text that a line may be answered by, and the mesh that it leaves. Where a list that isn't empty finds no memory, nothing is asked
pub data Answers (limit : ℕ) (old : State) (line text : List ℕ) (new : State) : Type 0 where
  bad_line : ((said : Saying) → ¬ Spells said line) → text ≡ ended (codes "bad line") → new ≡ old → Answers limit old line text new
  good_line : (said : Saying) → Spells said line → Does limit old said text new → Answers limit old line text new
  no_list : (said : Saying) → Spells said line → HasList said → text ≡ refusal_text OutOfMemory → new ≡ old → Answers limit old line text new

-- from the mesh the lines may be answered by this text
abbrev pub Talk : ℕ → State → List (List ℕ) → List ℕ → Type 0
Talk limit old [] text = text ≡ []
Talk limit old (line ∷ lines) text =
    (first : List ℕ) × (new : State) × (more : List ℕ) × Answers limit old line first new × Talk limit new lines more × (text ≡ first ++ more)
