use Rattle.dcel_constrained.proofs.Reaching.{IsWalk}
use Rattle.dcel_constrained.proofs.segments.ways.next_vertex.Given as goal

abbrev pub invariant-loop-step : goal.invariant-loop-step
invariant-loop-step g l = IsWalk l.fn.dcel l.fn.from l.fn.to l.edge l._step
