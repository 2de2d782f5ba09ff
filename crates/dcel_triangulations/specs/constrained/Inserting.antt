-- Points inserted among constraints.
use Rattle.dcel_constrained.specs.Constrained.{marked_mesh}
use Rattle.dcel_constrained.specs.Splitting.{SplitsMarked}
use Rattle.dcel_delaunay.specs.Bulk.{AddsVertices, FailsToInsertAll, StandAt}
use Rattle.dcel_exports.specs.Answers.{filled}
use Rattle.dcel_planar.specs.Outcomes.{FailsToInsert, HasInserted}
use Rattle.dcel_planar.specs.declared.errors.InsertionError.{InsertionError}
use Rattle.dcel_predicates.specs.declared.point.Point.{Point}
use Rattle.dcel_triangulations.specs.Points.{AreRead, IsAt}
use Rattle.dcel_triangulations.specs.Statuses.{insertion_status}
use Rattle.dcel_triangulations.specs.constrained.Calls.{IsWhole}
use Rattle.dcel_triangulations.specs.constrained.Held.{State}
use Rattle.dcel_triangulations.specs.declared.points.DcelPoint.{DcelPoint}
use Rattle.std.specs.Prelude.{◌≡◌, ◌⊎◌, ℕ, List, length}

-- the vertex has the point that is given: it stood there before, or it is new; the others keep theirs, and constraints stay, in one or two parts
pub record InsertsPoint (given : DcelPoint) (vertex : ℕ) (old new : State) : Type 0 where
  pub point : Point
  pub is : IsAt given point
  pub inserted : HasInserted old.planar new.planar point vertex
  pub splits : SplitsMarked (marked_mesh old) (marked_mesh new)
  pub whole : IsWhole new
  pub same : IsWhole old → (marked_mesh new).vertex_data ≡ (marked_mesh old).vertex_data → marked_mesh new ≡ marked_mesh old

-- it isn't inserted, or not all is done that belongs to it
pub record FailsToInsertPoint (given : DcelPoint) (status : ℕ) (old new : State) : Type 0 where
  pub point : Point
  pub is : IsAt given point
  pub error : InsertionError
  pub why : status ≡ insertion_status error
  pub fails : FailsToInsert old.planar new.planar point error
  pub splits : SplitsMarked (marked_mesh old) (marked_mesh new)

-- each point stands at the vertex whose number is put into the buffer in its row, and each new vertex at one of the points
pub record InsertsAll (given : List DcelPoint) (before after : List ℕ) (old new : State) : Type 0 where
  pub points : List Point
  pub are : AreRead given points
  pub vertices : List ℕ
  pub stand : StandAt (marked_mesh new) points vertices
  pub put : after ≡ filled vertices before
  pub adds : AddsVertices (marked_mesh old) (marked_mesh new) points (length points)
  pub splits : SplitsMarked (marked_mesh old) (marked_mesh new)
  pub whole : IsWhole new
  pub same : IsWhole old → (marked_mesh new).vertex_data ≡ (marked_mesh old).vertex_data → marked_mesh new ≡ marked_mesh old

-- some may be inserted, and the rest isn't
pub record FailsAmong (given : List DcelPoint) (status : ℕ) (old new : State) : Type 0 where
  pub points : List Point
  pub are : AreRead given points
  pub error : InsertionError
  pub why : status ≡ insertion_status error
  pub fails : FailsToInsertAll old.planar new.planar error
  pub adds : AddsVertices (marked_mesh old) (marked_mesh new) points (length points)
  pub splits : SplitsMarked (marked_mesh old) (marked_mesh new)
  pub same : IsWhole old → (marked_mesh new).vertex_data ≡ (marked_mesh old).vertex_data → marked_mesh new ≡ marked_mesh old

-- there is no memory to read them, or it fails among them
abbrev pub FailsToInsertAllOf : List DcelPoint → ℕ → State → State → Type 0
FailsToInsertAllOf given status old new = ((status ≡ 20) × (new ≡ old)) ⊎ FailsAmong given status old new
