-- A Delaunay triangulation of points, as a mesh.
use Rattle.std.specs.Prelude.{◌≡◌, ◌<◌, ℕ, List}
use Rattle.dcel_predicates.specs.declared.point.Point.{Point}
use Rattle.dcel_maps.specs.Conditions.{IsUnconnected}
use Rattle.dcel_maps.specs.Removals.{Closed}
use Rattle.dcel_maps.specs.Shapes.{IsMesh, Mesh, face_count}
use Rattle.dcel_maps.specs.Triangulations.{AllTriangles}
use Rattle.dcel_plane.specs.Plane.{IsLocallyDelaunay, point_at}
use Rattle.dcel_delaunay.specs.Triangulated.{CirclesAreEmpty, FacesAreApart, GoesRoundHull, HullIsCovered, PointsAreSingle}
use Rattle.dcel_output.specs.Numbering.{NumbersVertices}

-- a Delaunay triangulation of the points (B. Delaunay, "Sur la sphère vide", 1934), with these numbers at its vertices: triangles that go round
-- counterclockwise, with no vertex inside the circle of one, cover the convex hull without overlaps, and the outer face goes round it. While all
-- points are on one line, it is a path along that.
pub record IsDelaunayMesh {DE UE F : Type 0} (points : List Point) (m : Mesh Point DE UE F) (numbers : List ℕ) : Type 0 where
  pub numbered : NumbersVertices m points numbers
  pub mesh : IsMesh m
  pub closed : m.shape.removal ≡ Closed
  pub triangles : AllTriangles m.shape
  pub joined : (v : ℕ) → 1 < m.shape.vertices → ¬ IsUnconnected m.shape v
  pub delaunay : IsLocallyDelaunay (point_at m) m.shape
  pub circles : CirclesAreEmpty m
  pub apart : FacesAreApart m
  pub covers : 1 < face_count m.shape → HullIsCovered m
  pub single : PointsAreSingle m
  pub hull : GoesRoundHull m
