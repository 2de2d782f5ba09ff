-- Meshes that are a straight line: paths whose vertices stand on one line, in its order.
use Rattle.std.specs.Prelude.{◌≡◌, ℕ, ℤ, pos, ◌+ℤ◌, ◌-ℤ◌, ◌*ℤ◌, ◌<ℤ◌, ◌≤ℤ◌}
use Rattle.dcel_predicates.specs.declared.point.Point.{Point}
use Rattle.dcel_predicates.specs.Determinants.{orient2d_of}
use Rattle.dcel_maps.specs.Shapes.{IsLive, Shape, end_of, origin_of}
use Rattle.dcel_plane.specs.covering.Covering.{HasDistinctPoints, dot}

-- the dot product of the steps from a to b and from b to c: of points on one line, it is positive where c lies beyond b, as seen from a
abbrev pub dot_of_steps : Point → Point → Point → ℤ
dot_of_steps a b c = ((b.x -ℤ a.x) *ℤ (c.x -ℤ b.x)) +ℤ ((b.y -ℤ a.y) *ℤ (c.y -ℤ b.y))

-- All vertices stand on one line, each at a point of its own. No edge leads over a vertex, two half edges never lead from one vertex to one
-- side, and where a vertex lies beyond the end of a half edge, another one leads on from there.
pub record IsStraight (at : ℕ → Point) (s : Shape) : Type 0 where
  pub distinct : HasDistinctPoints at s
  pub line : (h k : ℕ) → IsLive s h → IsLive s k → orient2d_of (at (origin_of s h)) (at (end_of s h)) (at (origin_of s k)) ≡ pos 0
  pub between : (h k : ℕ) → IsLive s h → IsLive s k → pos 0 ≤ℤ dot (at (origin_of s h)) (at (end_of s h)) (at (origin_of s k))
  pub once : (h k : ℕ) → IsLive s h → IsLive s k → origin_of s h ≡ origin_of s k → pos 0 <ℤ dot (at (end_of s h)) (at (end_of s k)) (at (origin_of s h)) → h ≡ k
  pub onward : (h k : ℕ) → IsLive s h → IsLive s k → pos 0 <ℤ dot_of_steps (at (origin_of s h)) (at (end_of s h)) (at (origin_of s k))
      → (g : ℕ) × IsLive s g × (origin_of s g ≡ end_of s h) × (pos 0 <ℤ dot_of_steps (at (origin_of s h)) (at (end_of s h)) (at (end_of s g)))
