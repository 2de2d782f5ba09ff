-- What can be tested edge by edge of an outer face that is a convex hull.
use Rattle.std.specs.Prelude.{◌≡◌, ◌⊎◌, ℕ, ◌<◌, pos, ◌<ℤ◌, ◌≤ℤ◌}
use Rattle.dcel_fixed.specs.HalfEdges.{rev}
use Rattle.dcel_predicates.specs.declared.point.Point.{Point}
use Rattle.dcel_predicates.specs.Determinants.{orient2d_of}
use Rattle.dcel_maps.specs.Shapes.{IsLive, Shape, end_of, face_of, next_of, origin_of, prev_of}

-- b lies to the right of a, or straight above it
abbrev pub IsRightOf : Point → Point → Type 0
IsRightOf a b = (a.x <ℤ b.x) ⊎ ((a.x ≡ b.x) × (a.y <ℤ b.y))

-- the half edge h leads to the right, or straight up
abbrev pub LeadsRight : (ℕ → Point) → Shape → ℕ → Type 0
LeadsRight at s h = IsRightOf (at (origin_of s h)) (at (end_of s h))

-- its other half does
abbrev pub LeadsLeft : (ℕ → Point) → Shape → ℕ → Type 0
LeadsLeft at s h = IsRightOf (at (end_of s h)) (at (origin_of s h))

-- the half edge h of the outer face leads there, and the one before it doesn't
pub record Begins (leads : ℕ → Type 0) (s : Shape) (h : ℕ) : Type 0 where
  pub live : IsLive s h
  pub outer : face_of s h ≡ 0
  pub there : leads h
  pub before : ¬ leads (prev_of s h)

-- The outer face has inner faces on the other side, turns right or goes straight on at each vertex, and begins to lead to the right once, and
-- once to the left: so it goes round once, clockwise.
pub record GoesRoundOnce (at : ℕ → Point) (s : Shape) : Type 0 where
  pub inner : (h : ℕ) → IsLive s h → face_of s h ≡ 0 → 0 < face_of s (rev h)
  pub turns : (h : ℕ) → IsLive s h → face_of s h ≡ 0 → orient2d_of (at (origin_of s h)) (at (end_of s h)) (at (end_of s (next_of s h))) ≤ℤ pos 0
  pub right : (h k : ℕ) → Begins (LeadsRight at s) s h → Begins (LeadsRight at s) s k → h ≡ k
  pub left : (h k : ℕ) → Begins (LeadsLeft at s) s h → Begins (LeadsLeft at s) s k → h ≡ k
