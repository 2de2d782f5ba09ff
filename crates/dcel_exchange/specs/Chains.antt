-- Half edges found by their ends: the edge of each hangs at one of them, in a chain.
use Rattle.std.specs.Prelude.{◌≡◌, ℕ, ◌*◌, ◌/◌, ◌<◌, ◌==◌, ◌&&◌, ◌||◌, nat_lt, Bool, true, List, length, slice_index, slice_index_or, Option, Some, None}
use Rattle.dcel_fixed.specs.HalfEdges.{rev}
use Rattle.dcel_maps.specs.Numbers.{IsLastBelow}

-- h is one of the half edges with these origins, and leads from a to b
pub record Leads (origin : List ℕ) (h a b : ℕ) : Type 0 where
  pub below : h < length origin
  pub start : slice_index origin h ≡ a
  pub end : slice_index origin (rev h) ≡ b

-- what was found is a half edge that leads from a to b, and nothing only if none does
abbrev pub IsFound : List ℕ → ℕ → ℕ → Option ℕ → Type 0
IsFound origin a b None = (h : ℕ) → ¬ Leads origin h a b
IsFound origin a b (Some h) = Leads origin h a b

-- whether an edge with the ends a and b hangs at a: fewer sides start there, or as many and a is the smaller number
abbrev pub hangs : List ℕ → ℕ → ℕ → Bool
hangs starts a b = nat_lt (slice_index starts a) (slice_index starts b) || ((slice_index starts a == slice_index starts b) && nat_lt a b)

-- the half edge h starts at a, and its edge hangs there
abbrev pub HangsAt : List ℕ → List ℕ → ℕ → ℕ → Type 0
HangsAt starts origin a h = (slice_index origin h ≡ a) × (hangs starts a (slice_index origin (rev h)) ≡ true)

-- each half edge whose edge hangs where it starts is in the chain of that vertex: the last one is kept there, and with each one that before it
pub record AreChained (vertices : ℕ) (starts origin : List ℕ) (last before : List (Option ℕ)) : Type 0 where
  pub as_many_starts : length starts ≡ vertices
  pub as_many_lasts : length last ≡ vertices
  pub edges : length origin ≡ 2 * length before
  pub last_is : (v : ℕ) → v < vertices → IsLastBelow (HangsAt starts origin v) (length origin) (slice_index_or last v None)
  pub before_is : (h : ℕ) → h < length origin → HangsAt starts origin (slice_index origin h) h
      → IsLastBelow (HangsAt starts origin (slice_index origin h)) h (slice_index_or before (h / 2) None)
