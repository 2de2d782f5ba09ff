-- Points and segments at once.
use Rattle.dcel_constrained.specs.Constrained.{marked_mesh}
use Rattle.dcel_constrained.specs.Loading.{AreLaid, ArePartsOf, FailsToLoad}
use Rattle.dcel_constrained.specs.declared.errors.LoadError.{LoadError}
use Rattle.dcel_constrained.specs.declared.errors.LoadError.TheVariants.{Crosses, NoPoint, OutOfMemory, TooManyPoints}
use Rattle.dcel_constrained.specs.declared.load.Segment.{Segment}
use Rattle.dcel_delaunay.specs.Bulk.{StandAt}
use Rattle.dcel_delaunay.specs.declared.lists.Ends.{Ends}
use Rattle.dcel_exports.specs.Answers.{filled}
use Rattle.dcel_predicates.specs.declared.point.Point.{Point}
use Rattle.dcel_triangulations.specs.Points.{AreRead}
use Rattle.dcel_triangulations.specs.constrained.Calls.{IsWhole}
use Rattle.dcel_triangulations.specs.constrained.Held.{State}
use Rattle.dcel_triangulations.specs.declared.points.DcelPoint.{DcelPoint}
use Rattle.std.specs.Prelude.{◌≡◌, ℕ, List, All, Contains, length, map}

abbrev pub load_status : LoadError → ℕ
load_status (NoPoint i) = 1
load_status (Crosses i) = 26
load_status TooManyPoints = 19
load_status OutOfMemory = 20

-- what is told of a segment that is refused: its row
abbrev pub row_after : LoadError → ℕ → ℕ
row_after (NoPoint i) before = i
row_after (Crosses i) before = i
row_after TooManyPoints before = before
row_after OutOfMemory before = before

abbrev pub segment_given : Ends → Segment
segment_given s = record { from = s.from; to = s.to }

abbrev pub segments_given : List Ends → List Segment
segments_given ends = map segment_given ends

-- each point stands at the vertex whose number is put into the buffer in its row, and each vertex at one of the points; the segments are those
-- of constraints, and no other edge is one
pub record HasLoaded (given : List DcelPoint) (ends : List Ends) (before after : List ℕ) (t : State) : Type 0 where
  pub points : List Point
  pub are : AreRead given points
  pub vertices : List ℕ
  pub stand : StandAt (marked_mesh t) points vertices
  pub from : All (Contains points) (marked_mesh t).vertex_data
  pub segments : List Segment
  pub given_as : segments ≡ segments_given ends
  pub laid : AreLaid (marked_mesh t) vertices segments (length segments)
  pub only : ArePartsOf (marked_mesh t) vertices segments (length segments)
  pub put : after ≡ filled vertices before
  pub whole : IsWhole t

-- why they are not loaded, and the row that is told of a segment
pub record FailsToLoadAll (given : List DcelPoint) (ends : List Ends) (status before after : ℕ) : Type 0 where
  pub points : List Point
  pub are : AreRead given points
  pub segments : List Segment
  pub given_as : segments ≡ segments_given ends
  pub error : LoadError
  pub why : status ≡ load_status error
  pub told : after ≡ row_after error before
  pub fails : FailsToLoad points segments error
