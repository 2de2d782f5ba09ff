-- The half edges that are no side, and what comes after each half edge.
use Rattle.std.specs.Prelude.{◌≡◌, ℕ, ◌+◌, ◌<◌, List, length, slice_index, slice_index_or, Option, Some, None}
use Rattle.dcel_fixed.specs.HalfEdges.{rev}

-- of the first n half edges, those that are no side are found by where they start
pub record AreFound (side : List (Option ℕ)) (origin : List ℕ) (n : ℕ) (border : List (Option ℕ)) : Type 0 where
  pub each : (h : ℕ) → h < n → slice_index_or side h None ≡ None → slice_index_or border (slice_index origin h) None ≡ Some h
  pub only : (v h : ℕ) → slice_index_or border v None ≡ Some h → (h < n) × (slice_index_or side h None ≡ None) × (slice_index origin h ≡ v)

-- Of the first n half edges, a side is followed by the next one of its face and lies there. The others lie on face 0, and are followed by what
-- is found where they end.
pub record AreLinked (side : List (Option ℕ)) (half after owner origin : List ℕ) (border : List (Option ℕ)) (n : ℕ) (nexts faces : List ℕ) : Type 0 where
  pub as_many : length nexts ≡ n
  pub as_many_faces : length faces ≡ n
  pub next : (h p : ℕ) → h < n → slice_index_or side h None ≡ Some p → slice_index nexts h ≡ slice_index half (slice_index after p)
  pub face : (h p : ℕ) → h < n → slice_index_or side h None ≡ Some p → slice_index faces h ≡ slice_index owner p + 1
  pub outer : (h : ℕ) → h < n → slice_index_or side h None ≡ None → slice_index faces h ≡ 0
  pub around : (h k : ℕ) → h < n → slice_index_or side h None ≡ None → slice_index_or border (slice_index origin (rev h)) None ≡ Some k → slice_index nexts h ≡ k
