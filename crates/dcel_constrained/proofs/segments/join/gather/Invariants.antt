use Rattle.dcel_plane.specs.Plane.{point_at}
use Rattle.dcel_constrained.proofs.Gathering.{IsWay}
use Rattle.dcel_constrained.proofs.segments.join.gather.Given as goal

abbrev pub invariant-loop-step : goal.invariant-loop-step
invariant-loop-step g l = IsWay l.fn.dcel (point_at l.fn.dcel) l.fn.from l.fn.to l.fn.due.items l.crossed.items l.due.items l.edge l._step
