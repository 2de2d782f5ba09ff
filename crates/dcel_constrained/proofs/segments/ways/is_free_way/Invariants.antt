use Rattle.dcel_plane.specs.Plane.{point_at}
use Rattle.dcel_constrained.proofs.Between.{span}
use Rattle.dcel_constrained.proofs.Reaching.{IsFollowed}
use Rattle.dcel_constrained.proofs.segments.ways.is_free_way.Given as goal

abbrev pub invariant-loop-to : goal.invariant-loop-to
invariant-loop-to g l = IsFollowed l.fn.dcel l.fn.from l.fn.to l.at

-- each vertex on the way is nearer to its end
abbrev pub decreases-loop-to : goal.decreases-loop-to
decreases-loop-to g l = span (point_at l.dcel) l.at l.to
