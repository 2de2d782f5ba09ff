-- What is written after a word.
use Rattle.std.specs.Prelude.{◌≡◌, ℕ, ℤ, List, map}
use Rattle.std.specs.List.{AllByRecursion}
use Rattle.dcel_commands.specs.Grammar.{Item, item_text, IsInRange}

-- this is written there, each number and datum in its range
abbrev pub IsWritten : List (Item ℤ) → List (List ℕ) → Type 0
IsWritten given items = AllByRecursion IsInRange given × (items ≡ map item_text given)
