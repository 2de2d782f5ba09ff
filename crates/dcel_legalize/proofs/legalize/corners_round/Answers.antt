use Rattle.std.proofs.Common.{refl}
use Rattle.dcel_fixed.proofs.Halves.{rev-double}
use Rattle.dcel_legalize.proofs.legalize.corners_round.Goals as goal

pub returns-clause-value : goal.returns-clause-value
returns-clause-value g c =
    rw (
      c.fix.ensures.value,
      c.fix-2.ensures.value,
      c.fix-3.ensures.value,
      c.fix-4.ensures.value,
      c.from.ensures.number,
      c.to.ensures.number,
      c.from-2.ensures.number,
      c.from-3.ensures.number,
      c.prev.ensures.mesh,
      c.prev.ensures.number,
      c.prev-2.ensures.mesh,
      c.prev-2.ensures.number,
      c.rev.ensures.mesh,
      c.rev.ensures.number,
      c.as_directed-half.ensures.mesh,
      c.as_directed-half.ensures.number,
      c.undirected_edge.ensures.mesh,
      c.undirected_edge.ensures.number,
      rev-double,
    ) refl
