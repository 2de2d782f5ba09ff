use Rattle.std.proofs.Common.{append_assoc}
use Rattle.dcel_fixed.proofs.Halves.{rev-double}
use Rattle.dcel_legalize.proofs.beside.append_sides.Goals as goal

pub returns-clause-items : goal.returns-clause-items
returns-clause-items g c =
    rw (
      c.push_reserved-4.ensures.items,
      c.push_reserved-3.ensures.items,
      c.push_reserved-2.ensures.items,
      c.push_reserved.ensures.items,
      c.fix-4.ensures.value,
      c.as_undirected-4.ensures.number,
      c.prev-2.ensures.number,
      c.fix-3.ensures.value,
      c.as_undirected-3.ensures.number,
      c.next-2.ensures.number,
      c.fix-2.ensures.value,
      c.as_undirected-2.ensures.number,
      c.prev.ensures.number,
      c.fix.ensures.value,
      c.as_undirected.ensures.number,
      c.next.ensures.number,
      c.rev-facing.ensures.mesh,
      c.rev-facing.ensures.number,
      c.as_directed-half.ensures.mesh,
      c.as_directed-half.ensures.number,
      c.undirected_edge.ensures.mesh,
      c.undirected_edge.ensures.number,
      rev-double,
    ) (simp append_assoc)
