use Rattle.dcel_maps.proofs.walks.Duals.{next-ends}
use Rattle.spade_dcel.proofs.handles.voronoi.edges.DirectedVoronoiEdge+V+DE+UE+F+A.next.Goals as goal

pub returns-clause-meets : goal.returns-clause-meets
returns-clause-meets g c =
    rw (c.as_voronoi_edge.ensures.number, c.ccw.ensures.number, c.as_delaunay_edge.ensures.mesh, c.as_delaunay_edge.ensures.number)
    (next-ends c.every_mesh.ensures.sound _ c.requires)
