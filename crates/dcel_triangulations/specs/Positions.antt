-- Where points are, and which vertices are nearest to them, as C has it.
use Rattle.dcel_delaunay.specs.Bulk.{AnswersEach}
use Rattle.dcel_delaunay.specs.Triangulated.{IsNearestIn, mesh_in}
use Rattle.dcel_exports.specs.Answers.{filled}
use Rattle.dcel_planar.specs.Places.{IsPlace}
use Rattle.dcel_planar.specs.declared.position.PositionInTriangulation.{PositionInTriangulation}
use Rattle.dcel_planar.specs.declared.position.PositionInTriangulation.TheVariants.{BeyondLine, NoTriangulation, OnEdge, OnFace, OnVertex, OutsideOfConvexHull}
use Rattle.dcel_predicates.specs.declared.point.Point.{Point}
use Rattle.dcel_triangulations.specs.Held.{State}
use Rattle.dcel_triangulations.specs.Lists.{no_number}
use Rattle.dcel_triangulations.specs.Points.{AreRead, IsAt}
use Rattle.dcel_triangulations.specs.declared.points.DcelPoint.{DcelPoint}
use Rattle.dcel_triangulations.specs.declared.position.DcelPosition.{DcelPosition}
use Rattle.std.specs.Prelude.{◌≡◌, ◌-◌, ℕ, List, map, Option, unwrap_or}

-- a position with its kind's number. A triangle has its place in the list of triangles, which begins with face 1.
abbrev pub position_told : PositionInTriangulation → DcelPosition
position_told (OnFace f) = record { kind = 0; number = f - 1 }
position_told (OnEdge h) = record { kind = 1; number = h }
position_told (OnVertex v) = record { kind = 2; number = v }
position_told (OutsideOfConvexHull h) = record { kind = 3; number = h }
position_told (BeyondLine v) = record { kind = 4; number = v }
position_told NoTriangulation = record { kind = 5; number = no_number }

-- a vertex, or what stands where there is none
abbrev pub vertex_told : Option ℕ → ℕ
vertex_told v = unwrap_or v no_number

-- the position that is told is where the point lies
pub record IsPlaceOf (given : DcelPoint) (told : DcelPosition) (t : State) : Type 0 where
  pub point : Point
  pub is : IsAt given point
  pub position : PositionInTriangulation
  pub place : IsPlace (mesh_in t) point position
  pub tells : told ≡ position_told position

-- no vertex is nearer to the point than the one that is told
pub record IsNearestTo (given : DcelPoint) (told : ℕ) (t : State) : Type 0 where
  pub point : Point
  pub is : IsAt given point
  pub vertex : Option ℕ
  pub nearest : IsNearestIn (mesh_in t) point vertex
  pub tells : told ≡ vertex_told vertex

-- the place of each point stands in the buffer, in its row, before what stays of it
pub record LocatesAll (given : List DcelPoint) (before after : List DcelPosition) (t : State) : Type 0 where
  pub points : List Point
  pub are : AreRead given points
  pub positions : List PositionInTriangulation
  pub each : AnswersEach (IsPlace (mesh_in t)) points positions
  pub put : after ≡ filled (map position_told positions) before

-- a vertex nearest to each point stands in the buffer, in its row, before what stays of it
pub record FindsAllNearest (given : List DcelPoint) (before after : List ℕ) (t : State) : Type 0 where
  pub points : List Point
  pub are : AreRead given points
  pub vertices : List (Option ℕ)
  pub each : AnswersEach (IsNearestIn (mesh_in t)) points vertices
  pub put : after ≡ filled (map vertex_told vertices) before
