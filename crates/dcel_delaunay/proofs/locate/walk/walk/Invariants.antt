use Rattle.std.proofs.Common.{◌<◌, unsigned_abs}
use Rattle.dcel_plane.specs.Plane.{point_at}
use Rattle.dcel_predicates.specs.Determinants.{squared_distance_of}
use Rattle.dcel_delaunay.proofs.locate.walk.walk.Given as goal

abbrev pub invariant-loop-nearer : goal.invariant-loop-nearer
invariant-loop-nearer g l = l.vertex < l.dcel.shape.vertices

-- each step comes nearer
abbrev pub decreases-loop-nearer : goal.decreases-loop-nearer
decreases-loop-nearer g l = unsigned_abs (squared_distance_of (point_at l.dcel l.vertex) l.point)
