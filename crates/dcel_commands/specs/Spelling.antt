-- The lines that are commands or queries.
use Rattle.std.specs.Prelude.{◌≡◌, ◌≢◌, ℕ, ℤ, ◌<◌, ◌≤◌, List, ◌∷◌, length, map, Option, Some, None, Result, Ok, Err}
use Rattle.std.specs.List.{AllByRecursion}
use Rattle.std.specs.declared.alloc.AllocError.{AllocError}
use Rattle.dcel_commands.specs.declared.request.Request.{Request}
use Rattle.dcel_commands.specs.Grammar.{Item, item_text, IsInRange}
use Rattle.dcel_commands.specs.Instructions.{Saying, Edit, Ask, command_rule, in_lists, saying}
use Rattle.dcel_text.specs.Items.{spaced}
use Rattle.dcel_commands.specs.Queries.{query_rule}

-- the word that a line begins with
abbrev pub word : Saying → List ℕ
word (Edit command) = (command_rule command).word
word (Ask query) = (query_rule query).word

-- what stands after it
abbrev pub given : Saying → List (Item ℤ)
given (Edit command) = (command_rule command).given
given (Ask query) = (query_rule query).given

-- its items, from left to right
abbrev pub written : Saying → List (List ℕ)
written said = word said ∷ map item_text (given said)

-- each number and datum is in its range
abbrev pub InRange : Saying → Type 0
InRange said = AllByRecursion IsInRange (given said)

-- the line says this
pub record Spells (said : Saying) (line : List ℕ) : Type 0 where
  pub in_range : InRange said
  pub short : length line ≤ 4096
  pub spelled : line ≡ spaced (written said)

-- it has a list that isn't empty
abbrev pub HasList : Saying → Type 0
HasList (Edit command) = 0 < in_lists command
HasList (Ask query) = ⊥

-- what the items of a line say, of which the first is a word: nothing that is a command or query; one of these; or one whose lists
-- found no memory
unfoldable pub Says : {A : Type 0} → List ℕ → List (List ℕ) → Option (Result (Request A) AllocError) → Type 0
Says first others None = (said : Saying) → InRange said → first ∷ others ≢ written said
Says first others (Some (Ok request)) = InRange (saying request) × (first ∷ others ≡ written (saying request))
Says first others (Some (Err error)) = (said : Saying) × InRange said × (first ∷ others ≡ written said) × HasList said

-- the same of a line
abbrev pub Reads : {A : Type 0} → List ℕ → Option (Result (Request A) AllocError) → Type 0
Reads line None = (said : Saying) → ¬ Spells said line
Reads line (Some (Ok request)) = Spells (saying request) line
Reads line (Some (Err error)) = (said : Saying) × Spells said line × HasList said
