-- What contracts read of vertices of the Voronoi diagram.
use Rattle.spade_dcel.specs.declared.handles.voronoi.vertices.VoronoiVertex.{VoronoiVertex}
use Rattle.spade_dcel.specs.declared.handles.voronoi.vertices.VoronoiVertex.TheVariants.{Inner, Outer}
use Rattle.spade_dcel.specs.Handles.{mesh_behind, number_of}
use Rattle.dcel_maps.specs.Shapes.{Mesh}
use Rattle.dcel_maps.specs.Voronoi.{DualVertex, OfFace, OutsideOf}

module _ {V DE UE F A : Type 0} where
  -- the vertex by its number, and the mesh that it borrows
  abbrev pub dual_vertex : VoronoiVertex V DE UE F A → DualVertex
  dual_vertex (Inner face) = OfFace (number_of face)
  dual_vertex (Outer edge) = OutsideOf (number_of edge)

  abbrev pub mesh_around : VoronoiVertex V DE UE F A → Mesh V DE UE F
  mesh_around (Inner face) = mesh_behind face
  mesh_around (Outer edge) = mesh_behind edge
