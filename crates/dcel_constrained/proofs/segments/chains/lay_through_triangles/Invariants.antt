use Rattle.dcel_plane.specs.Plane.{point_at}
use Rattle.dcel_constrained.proofs.Lays.{IsLaying, way_left}
use Rattle.dcel_constrained.proofs.segments.chains.lay_through_triangles.Given as goal

abbrev pub invariant-loop-to : goal.invariant-loop-to
invariant-loop-to g l = IsLaying l.fn.planar.dcel l.planar.dcel l.fn.from l.to l.at l.goal l.planar.due.items l.crossed.items l.added

abbrev pub decreases-loop-to : goal.decreases-loop-to
decreases-loop-to g l = way_left (point_at l.planar.dcel) l.at l.to l.goal
