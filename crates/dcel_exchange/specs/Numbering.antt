-- What is known while sides are numbered, one after another.
use Rattle.std.specs.Prelude.{◌≡◌, ℕ, ◌*◌, ◌<◌, true, List, length, slice_index, slice_index_or, option_and_then, Option, Some, None}
use Rattle.dcel_fixed.specs.HalfEdges.{rev}
use Rattle.dcel_maps.specs.Maps.{count}
use Rattle.dcel_exchange.specs.Corners.{LeadsBack, is_first}

-- the first i sides are numbered: their half edges, the side of each half edge, and where each one starts
pub record AreNumbered (from to : List ℕ) (i : ℕ) (half : List ℕ) (side : List (Option ℕ)) (origin : List ℕ) : Type 0 where
  pub numbers : length half ≡ i
  pub edges : length origin ≡ 2 * count (is_first from to) i
  pub sides : length side ≡ length origin
  pub first : (p : ℕ) → p < i → is_first from to p ≡ true → slice_index half p ≡ 2 * count (is_first from to) p
  pub second : (p q : ℕ) → p < i → q < p → LeadsBack from to p q → slice_index half p ≡ rev (slice_index half q)
  pub in_range : (p : ℕ) → p < i → slice_index half p < length origin
  pub placed : (p : ℕ) → p < i → slice_index_or side (slice_index half p) None ≡ Some p
  pub only : (h p : ℕ) → slice_index_or side h None ≡ Some p → (p < i) × (slice_index half p ≡ h)
  pub start : (p : ℕ) → p < i → slice_index origin (slice_index half p) ≡ slice_index from p
  pub end : (p : ℕ) → p < i → slice_index origin (rev (slice_index half p)) ≡ slice_index to p
  -- a half edge that is no side lies beyond a side that none leads back from
  pub bare : (h : ℕ) → h < length origin → slice_index_or side h None ≡ None
      → (p : ℕ) × (p < i) × (rev (slice_index half p) ≡ h) × ((q : ℕ) → q < i → ¬ LeadsBack from to p q)
  pub free : (p : ℕ) → p < i → ((q : ℕ) → q < i → ¬ LeadsBack from to p q) → slice_index_or side (rev (slice_index half p)) None ≡ None

-- no two of the first i sides have the same ends
abbrev pub AreDistinct : List ℕ → List ℕ → ℕ → Type 0
AreDistinct from to i = (p q : ℕ) → p < i → q < i → slice_index from p ≡ slice_index from q → slice_index to p ≡ slice_index to q → p ≡ q

-- the side of a half edge that was found
abbrev pub side_of_found : List (Option ℕ) → Option ℕ → Option ℕ
side_of_found side found = option_and_then (λ h. slice_index_or side h None) found
