use Rattle.dcel_maps.proofs.Liveness.{closed-half_live}
use Rattle.dcel_refinement.proofs.quality.is_given_corner.Goals as goal

pub prev-requires : goal.prev-requires
prev-requires g c =
    rw (c.directed_edge.ensures.mesh, c.directed_edge.ensures.number) (closed-half_live c.args.mesh.now.shape c.requires.closed c.args.half c.requires.within)
