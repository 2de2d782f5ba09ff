-- A search from half edge 0, over a queue of what is marked.
use Rattle.std.specs.Prelude.{◌≡◌, ◌⊎◌, ℕ, ◌+◌, ◌<◌, ◌≤◌, Bool, not, List, length, slice_index}
use Rattle.std.specs.List.{count_by}
use Rattle.dcel_fixed.specs.HalfEdges.{rev}
use Rattle.dcel_links.specs.Marks.{Marked}

-- what comes next, or the other half
abbrev pub Leads : List ℕ → ℕ → ℕ → Type 0
Leads next x y = (slice_index next x ≡ y) ⊎ (rev x ≡ y)

-- what is marked stands at the first places of the queue, and there is room for the others
pub record Queue (marks : List Bool) (order : List ℕ) (tail : ℕ) : Type 0 where
  pub listed : (p : ℕ) → p < tail → Marked marks (slice_index order p)
  pub found : (x : ℕ) → Marked marks x → (p : ℕ) × (p < tail) × (slice_index order p ≡ x)
  pub room : tail + count_by not marks ≤ length order

-- one half edge is marked, and stands in the queue
pub record Visits (half : ℕ) (marks : List Bool) (order : List ℕ) (tail : ℕ) (marks' : List Bool) (order' : List ℕ) (tail' : ℕ) : Type 0 where
  pub queue : Queue marks' order' tail'
  pub marked : Marked marks' half
  pub kept : (x : ℕ) → Marked marks x → Marked marks' x
  pub new : (x : ℕ) → Marked marks' x → Marked marks x ⊎ (x ≡ half)
  pub same : (p : ℕ) → p < tail → slice_index order' p ≡ slice_index order p
  pub grows : tail ≤ tail'
