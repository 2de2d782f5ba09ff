-- What a line is written of: items with one space between two.
use Rattle.std.specs.Prelude.{ℕ, ℤ, List, map}
use Rattle.std.specs.Fmt.{decimal, signed_decimal}
use Rattle.dcel_text.specs.Items.{slash}
use Rattle.dcel_text.specs.Numbers.{IsNumber, IsDatum}

-- what stands after the word that begins a line, with data of any type: numbers, data, and a slash between two lists
pub data Item (V : Type 0) : Type 0 where
  Number : ℕ → Item V
  Datum : V → Item V
  Slash : Item V

-- how an item is written
abbrev pub item_text : Item ℤ → List ℕ
item_text (Number n) = decimal n
item_text (Datum d) = signed_decimal d
item_text Slash = slash

-- a number or a datum is in its range
abbrev pub IsInRange : Item ℤ → Type 0
IsInRange (Number n) = IsNumber n
IsInRange (Datum d) = IsDatum d
IsInRange Slash = Unit {0}

-- a list of numbers
abbrev pub numbers : {V : Type 0} → List ℕ → List (Item V)
numbers ns = map (λ n. Number n) ns
