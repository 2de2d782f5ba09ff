-- The vertices nearest to a point q. The squares of distances (`squared_distance_of`) are compared.
use Rattle.std.specs.Prelude.{◌≡◌, ℕ, ◌<◌, ◌≤ℤ◌}
use Rattle.dcel_predicates.specs.declared.point.Point.{Point}
use Rattle.dcel_predicates.specs.Determinants.{squared_distance_of}
use Rattle.dcel_maps.specs.Shapes.{IsLive, Shape, end_of, origin_of}

-- no vertex is nearer than v
abbrev pub IsNearest : (ℕ → Point) → Shape → Point → ℕ → Type 0
IsNearest at s q v = (w : ℕ) → w < s.vertices → squared_distance_of (at v) q ≤ℤ squared_distance_of (at w) q

-- no neighbor of v is nearer than v
abbrev pub HasNoNearerNeighbor : (ℕ → Point) → Shape → Point → ℕ → Type 0
HasNoNearerNeighbor at s q v = (h : ℕ) → IsLive s h → origin_of s h ≡ v → squared_distance_of (at v) q ≤ℤ squared_distance_of (at (end_of s h)) q
