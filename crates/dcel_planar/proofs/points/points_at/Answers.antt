use Rattle.std.proofs.Common.{refl}
use Rattle.dcel_fixed.proofs.Halves.{rev-double}
use Rattle.dcel_planar.proofs.points.points_at.Goals as goal

pub returns-clause-from : goal.returns-clause-from
returns-clause-from g c =
    rw (
      c.point_of.ensures,
      c.from.ensures.mesh,
      c.from.ensures.number,
      c.as_directed-half.ensures.mesh,
      c.as_directed-half.ensures.number,
      c.undirected_edge.ensures.mesh,
      c.undirected_edge.ensures.number,
    ) refl

pub returns-clause-to : goal.returns-clause-to
returns-clause-to g c =
    rw (
      c.point_of-2.ensures,
      c.to.ensures.mesh,
      c.to.ensures.number,
      c.as_directed-half.ensures.mesh,
      c.as_directed-half.ensures.number,
      c.undirected_edge.ensures.mesh,
      c.undirected_edge.ensures.number,
      rev-double,
    ) refl

pub returns-clause-near : goal.returns-clause-near
returns-clause-near g c =
    rw (
      c.point_of-3.ensures,
      c.from-2.ensures.mesh,
      c.from-2.ensures.number,
      c.prev.ensures.mesh,
      c.prev.ensures.number,
      c.as_directed-half.ensures.mesh,
      c.as_directed-half.ensures.number,
      c.undirected_edge.ensures.mesh,
      c.undirected_edge.ensures.number,
    ) refl

pub returns-clause-far : goal.returns-clause-far
returns-clause-far g c =
    rw (
      c.point_of-4.ensures,
      c.from-3.ensures.mesh,
      c.from-3.ensures.number,
      c.prev-2.ensures.mesh,
      c.prev-2.ensures.number,
      c.rev.ensures.mesh,
      c.rev.ensures.number,
      c.as_directed-half.ensures.mesh,
      c.as_directed-half.ensures.number,
      c.undirected_edge.ensures.mesh,
      c.undirected_edge.ensures.number,
      rev-double,
    ) refl
