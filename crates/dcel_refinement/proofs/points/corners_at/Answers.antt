use Rattle.std.proofs.Common.{refl}
use Rattle.dcel_maps.proofs.Liveness.{closed-half_live}
use Rattle.dcel_refinement.proofs.points.corners_at.Goals as goal

pub from-requires : goal.from-requires
from-requires g c =
    rw (c.directed_edge-edge.ensures.mesh, c.directed_edge-edge.ensures.number) (closed-half_live c.args.mesh.now.shape c.requires.closed c.args.half c.requires.within)

pub to-requires : goal.to-requires
to-requires g c =
    rw (c.directed_edge-edge.ensures.mesh, c.directed_edge-edge.ensures.number) (closed-half_live c.args.mesh.now.shape c.requires.closed c.args.half c.requires.within)

pub prev-requires : goal.prev-requires
prev-requires g c =
    rw (c.directed_edge-edge.ensures.mesh, c.directed_edge-edge.ensures.number) (closed-half_live c.args.mesh.now.shape c.requires.closed c.args.half c.requires.within)

pub returns-clause-from : goal.returns-clause-from
returns-clause-from g c =
    rw (c.point_of.ensures, c.from.ensures.mesh, c.from.ensures.number, c.directed_edge-edge.ensures.mesh, c.directed_edge-edge.ensures.number) refl

pub returns-clause-to : goal.returns-clause-to
returns-clause-to g c =
    rw (c.point_of-2.ensures, c.to.ensures.mesh, c.to.ensures.number, c.directed_edge-edge.ensures.mesh, c.directed_edge-edge.ensures.number) refl

pub returns-clause-opposite : goal.returns-clause-opposite
returns-clause-opposite g c =
    rw (
      c.point_of-3.ensures,
      c.from-2.ensures.mesh,
      c.from-2.ensures.number,
      c.prev.ensures.mesh,
      c.prev.ensures.number,
      c.directed_edge-edge.ensures.mesh,
      c.directed_edge-edge.ensures.number,
    ) refl
