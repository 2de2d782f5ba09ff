use Rattle.std.proofs.Common.{refl}
use Rattle.dcel_fixed.proofs.Halves.{rev-double}
use Rattle.dcel_planar.proofs.star.half_beyond.Goals as goal

pub returns-then-eq-clause-near : goal.returns-then-eq-clause-near
returns-then-eq-clause-near g c = λ near. rw (c.fix-then-eq.ensures.value, c.rev.ensures.number, c.as_directed-half.ensures.number, c.undirected_edge.ensures.number, rev-double) refl
