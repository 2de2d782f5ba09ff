use Rattle.std.proofs.Common.{ℕ, ◌<◌}
use Rattle.dcel_plane.specs.Plane.{IsCircled, IsInner, point_at}
use Rattle.dcel_planar.proofs.planes.is_delaunay.Given as goal

-- none of the edges so far has a corner inside the circle of the other side
abbrev pub invariant-loop-number : goal.invariant-loop-number
invariant-loop-number g l = (u : ℕ) → u < l.number → IsInner l.dcel.shape u → ¬ IsCircled (point_at l.dcel) l.dcel.shape u
