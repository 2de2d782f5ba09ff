-- Where a segment crosses an edge.
use Rattle.std.specs.Prelude.{◌≡◌, ℕ, ℤ, pos, ◌+◌, ◌*◌, ◌^◌, ◌≤◌, ◌+ℤ◌, ◌-ℤ◌, ◌*ℤ◌, ◌<ℤ◌, unsigned_abs}
use Rattle.dcel_predicates.specs.declared.point.Point.{Point}
use Rattle.dcel_predicates.specs.Determinants.{orient2d_of}
use Rattle.dcel_predicates.specs.Wide.{number_of}
use Rattle.dcel_maps.specs.Shapes.{Mesh, origin_of}
use Rattle.dcel_plane.specs.Plane.{point_at}
use Rattle.dcel_regions.specs.declared.mark.Mark.{Mark}
use Rattle.dcel_constrained.specs.declared.crossing.Crossing.{Crossing}

-- the segment from c to d crosses the one from a to b, from its right to its left, in a point that is an end of neither
pub record CrossesOver (a b c d : Point) : Type 0 where
  pub right : orient2d_of a b c <ℤ pos 0
  pub left : pos 0 <ℤ orient2d_of a b d
  pub near : pos 0 <ℤ orient2d_of c d a
  pub far : orient2d_of c d b <ℤ pos 0

-- the place (x / w, y / w) is a + t / w * (b - a), with 0 < t / w < 1
pub record LiesAlong (a b : Point) (t w x y : ℤ) : Type 0 where
  pub after : pos 0 <ℤ t
  pub before : t <ℤ w
  pub across : x ≡ (a.x *ℤ w) +ℤ ((b.x -ℤ a.x) *ℤ t)
  pub up : y ≡ (a.y *ℤ w) +ℤ ((b.y -ℤ a.y) *ℤ t)

-- n is at most a half away from x / w
abbrev pub IsNearest : ℤ → ℤ → ℤ → Type 0
IsNearest n x w = 2 * unsigned_abs ((n *ℤ w) -ℤ x) ≤ unsigned_abs w

-- the segments from a to b and from c to d have the place in common, and no whole point is nearer to it than the one told
pub record IsCrossing (a b c d : Point) (p : Crossing) : Type 0 where
  pub first : LiesAlong a b p.along p.weight (number_of p.x) (number_of p.y)
  pub second : (t : ℤ) × LiesAlong c d t p.weight (number_of p.x) (number_of p.y)
  pub nearest_x : IsNearest p.nearest.x (number_of p.x) p.weight
  pub nearest_y : IsNearest p.nearest.y (number_of p.y) p.weight
  pub x_bound : unsigned_abs (number_of p.x) ≤ 2 ^ 165
  pub y_bound : unsigned_abs (number_of p.y) ≤ 2 ^ 165
  pub weight_bound : unsigned_abs p.weight ≤ 2 ^ 109

-- the segment from v to w crosses the edge u there
abbrev pub CrossesEdgeAt : {DE F : Type 0} → Mesh Point DE Mark F → ℕ → ℕ → ℕ → Crossing → Type 0
CrossesEdgeAt m v w u p =
    IsCrossing (point_at m v) (point_at m w) (point_at m (origin_of m.shape (2 * u))) (point_at m (origin_of m.shape (2 * u + 1))) p
