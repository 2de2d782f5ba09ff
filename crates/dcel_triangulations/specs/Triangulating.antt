-- The triangles of points, as C gives them.
use Rattle.std.specs.Prelude.{List}
use Rattle.dcel_delaunay.specs.Triangles.{AreDelaunayTriangles}
use Rattle.dcel_delaunay.specs.declared.triangles.triangle.Triangle.{Triangle}
use Rattle.dcel_predicates.specs.declared.point.Point.{Point}
use Rattle.dcel_triangulations.specs.Points.{AreRead}
use Rattle.dcel_triangulations.specs.declared.points.DcelPoint.{DcelPoint}

-- they are a Delaunay triangulation of the points with these coordinates, by the rows of these
abbrev pub AreTrianglesOf : List DcelPoint → List Triangle → Type 0
AreTrianglesOf given list = (points : List Point) × AreRead given points × AreDelaunayTriangles points list
