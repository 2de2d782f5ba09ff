-- Where points are among constraints.
use Rattle.dcel_constrained.specs.Constrained.{marked_mesh}
use Rattle.dcel_delaunay.specs.Bulk.{AnswersEach}
use Rattle.dcel_exports.specs.Answers.{filled}
use Rattle.dcel_planar.specs.Places.{IsPlace}
use Rattle.dcel_planar.specs.declared.position.PositionInTriangulation.{PositionInTriangulation}
use Rattle.dcel_predicates.specs.declared.point.Point.{Point}
use Rattle.dcel_triangulations.specs.Points.{AreRead, IsAt}
use Rattle.dcel_triangulations.specs.Positions.{position_told}
use Rattle.dcel_triangulations.specs.constrained.Held.{State}
use Rattle.dcel_triangulations.specs.declared.points.DcelPoint.{DcelPoint}
use Rattle.dcel_triangulations.specs.declared.position.DcelPosition.{DcelPosition}
use Rattle.std.specs.Prelude.{◌≡◌, List, map}

-- the position that is told is where the point lies
pub record IsPlaceOf (given : DcelPoint) (told : DcelPosition) (t : State) : Type 0 where
  pub point : Point
  pub is : IsAt given point
  pub position : PositionInTriangulation
  pub place : IsPlace (marked_mesh t) point position
  pub tells : told ≡ position_told position

-- the place of each point stands in the buffer, in its row, before what stays of it
pub record LocatesAll (given : List DcelPoint) (before after : List DcelPosition) (t : State) : Type 0 where
  pub points : List Point
  pub are : AreRead given points
  pub positions : List PositionInTriangulation
  pub each : AnswersEach (IsPlace (marked_mesh t)) points positions
  pub put : after ≡ filled (map position_told positions) before
