use Rattle.dcel_refinement.proofs.Exceptions.{CountedTo}
use Rattle.dcel_refinement.proofs.judging.count_exceptions.Given as goal

-- the exceptions so far are counted
abbrev pub invariant-loop-place : goal.invariant-loop-place
invariant-loop-place g l = CountedTo l.mesh l.parameters l.place l.count
