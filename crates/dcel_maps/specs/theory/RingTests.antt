-- How a region ring is tested: the walk past the edges step by step, and then whether it has all of the faces.
use Rattle.std.specs.Prelude.{◌≡◌, ◌≢◌, ◌⊎◌, ℕ, zero, suc, ◌*◌, ◌/◌, ◌<◌, ◌≤◌, Bool, true, false, nat_lt, cond, List, [], ◌∷◌, length, reverse}
use Rattle.dcel_fixed.specs.HalfEdges.{rev}
use Rattle.dcel_maps.specs.Borders.{StartsAlone}
use Rattle.dcel_maps.specs.Shapes.{Shape, IsLive, edge_is_live, face_is_live, face_of, next_of, origin_of}
use Rattle.dcel_maps.specs.theory.Cycles.{IsCycle, Path}
use Rattle.dcel_maps.specs.Words.{count_of, word_of}

-- whether a number stands in a list
abbrev pub stands : ℕ → List ℕ → Bool
stands x w = nat_lt 0 (count_of x w)

-- j, and while that is a half of a listed edge, next of its other half; it gives up after `fuel` of these
unfoldable pub past_listed : (ℕ → ℕ) → List ℕ → ℕ → ℕ → ℕ
past_listed next edges zero j = j
past_listed next edges (suc fuel) j = cond (stands (j / 2) edges) (past_listed next edges fuel (next (rev j))) j

-- one step of the walk: no more edges are passed than are listed
abbrev pub rim_step : (ℕ → ℕ) → List ℕ → ℕ → ℕ
rim_step next edges h = past_listed next edges (length edges) (next h)

-- the step leads to k, which is of no listed edge
abbrev pub StepsTo : (ℕ → ℕ) → List ℕ → ℕ → ℕ → Type 0
StepsTo next edges h k = (rim_step next edges h ≡ k) × (stands (k / 2) edges ≡ false)

abbrev pub EdgeFits : Shape → List ℕ → ℕ → Type 0
EdgeFits s faces u = (edge_is_live s u ≡ true) × (stands (face_of s (2 * u)) faces ≡ true) × (stands (face_of s (rev (2 * u))) faces ≡ true)
    × (face_of s (2 * u) ≢ face_of s (rev (2 * u)))

abbrev pub BeginsOn : Shape → List ℕ → List ℕ → Type 0
BeginsOn s faces [] = ⊥
BeginsOn s faces (p ∷ rest) = IsLive s p × (stands (face_of s p) faces ≡ true)

-- what the test asks, in its order
pub record PassesTest (s : Shape) (border edges faces : List ℕ) : Type 0 where
  pub many : 3 ≤ length border
  pub fewer : length faces ≡ suc (length edges)
  pub edges_once : (u : ℕ) → count_of u edges ≤ 1
  pub faces_once : (f : ℕ) → count_of f faces ≤ 1
  pub faces_fit : (f : ℕ) → 0 < count_of f faces → (0 < f) × (face_is_live s f ≡ true)
  pub edges_fit : (u : ℕ) → 0 < count_of u edges → EdgeFits s faces u
  pub begins : BeginsOn s faces (reverse border)
  pub round : IsCycle (StepsTo (next_of s) edges) (reverse border)
  pub alone : StartsAlone s (reverse border)
  pub covers : (f : ℕ) → 0 < count_of f faces → (h : ℕ) → 0 < count_of h (word_of s.words f)
      → (0 < count_of (h / 2) edges) ⊎ (0 < count_of h (reverse border))

-- each item of a list has a property
abbrev pub EachOf : (ℕ → Type 0) → List ℕ → Type 0
EachOf P w = (k : ℕ) → 0 < count_of k w → P k

-- from x along the list to e, and none of the list starts at the apex
abbrev pub GoesAlong : Shape → List ℕ → ℕ → ℕ → List ℕ → ℕ → Type 0
GoesAlong s edges apex x w e = Path (StepsTo (next_of s) edges) x w e × ((y : ℕ) → 0 < count_of y w → origin_of s y ≢ apex)

abbrev pub LeadsRound : Shape → List ℕ → List ℕ → List ℕ → Type 0
LeadsRound s edges faces w = BeginsOn s faces w × IsCycle (StepsTo (next_of s) edges) w × StartsAlone s w

abbrev pub IsCovered : List ℕ → List ℕ → ℕ → Type 0
IsCovered edges list h = (0 < count_of (h / 2) edges) ⊎ (0 < count_of h list)
