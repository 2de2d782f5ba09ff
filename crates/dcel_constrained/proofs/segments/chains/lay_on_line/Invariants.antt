use Rattle.dcel_plane.specs.Plane.{point_at}
use Rattle.dcel_constrained.proofs.Between.{span}
use Rattle.dcel_constrained.proofs.Lays.{IsLayingOnLine}
use Rattle.dcel_constrained.proofs.segments.chains.lay_on_line.Given as goal

abbrev pub invariant-loop-to : goal.invariant-loop-to
invariant-loop-to g l = IsLayingOnLine l.fn.dcel l.dcel l.fn.from l.to l.at l.added

abbrev pub decreases-loop-to : goal.decreases-loop-to
decreases-loop-to g l = span (point_at l.dcel) l.at l.to
