-- A line, cut at its spaces.
use Rattle.std.specs.Prelude.{◌≡◌, ◌≢◌, ℕ, List, [], ◌∷◌, ◌++◌, ◌==◌, map, Option, Some, None, if◌then◌else◌, codes}
use Rattle.std.specs.Borrow.{Bor}
use Rattle.std.specs.Fmt.{decimal}
use Rattle.std.specs.List.{AllByRecursion}
use Rattle.dcel_text.specs.Numbers.{IsNumber}

-- a byte before the first item
abbrev pub before : ℕ → List (List ℕ) → List (List ℕ)
before b [] = (b ∷ []) ∷ []
before b (item ∷ items) = (b ∷ item) ∷ items

-- the items between the spaces; there is always a first one, which may be empty
unfoldable pub items_of : List ℕ → List (List ℕ)
items_of [] = [] ∷ []
items_of (b ∷ bs) = if b == 32 then [] ∷ items_of bs else before b (items_of bs)

-- the items that are still to be read
abbrev pub left : Option (Bor (List ℕ)) → List (List ℕ)
left None = []
left (Some bytes) = items_of bytes.now

-- items with one space between two
abbrev pub spaced : List (List ℕ) → List ℕ
spaced [] = []
spaced (item ∷ []) = item
spaced (item ∷ next ∷ items) = item ++ 32 ∷ spaced (next ∷ items)

-- what stands between two lists
abbrev pub slash : List ℕ
slash = codes "/"

-- the items begin with these numbers, and no number comes after them
pub record BeginsWith (items : List (List ℕ)) (numbers : List ℕ) (others : List (List ℕ)) : Type 0 where
  pub whole : items ≡ map decimal numbers ++ others
  pub in_range : AllByRecursion IsNumber numbers
  pub ends : (n : ℕ) (more : List (List ℕ)) → IsNumber n → others ≢ decimal n ∷ more
