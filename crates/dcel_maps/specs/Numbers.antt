-- The numbers of elements, in order, and the last of them with a property or a label.
use Rattle.std.specs.Prelude.{◌≡◌, ◌<◌, ℕ, ◌-◌, List, length, slice_index, Option, Some, None}
use Rattle.std.specs.List.{range_with_len}

-- the numbers from a on that are below b
unfoldable pub numbers_between : ℕ → ℕ → List ℕ
numbers_between a b = range_with_len a (b - a)

-- the last number below n that P holds of, and None where it holds of none
abbrev pub IsLastBelow : (ℕ → Type 0) → ℕ → Option ℕ → Type 0
IsLastBelow P n None = (k : ℕ) → k < n → ¬ P k
IsLastBelow P n (Some k) = (k < n) × P k × ((j : ℕ) → k < j → j < n → ¬ P j)

-- the last half edge that a list labels with v, its vertex or its face, and None where it labels none so
abbrev pub IsLast : List ℕ → ℕ → Option ℕ → Type 0
IsLast labels v = IsLastBelow (λ h. slice_index labels h ≡ v) (length labels)
