-- Triangulations made and changed.
use Rattle.dcel_constrained.specs.Constrained.{marked_mesh}
use Rattle.dcel_constrained.specs.Removing.{LeavesConstraints, LosesConstraintsOf}
use Rattle.dcel_constrained.specs.Soundness.{HasNoConstraint}
use Rattle.dcel_constrained.specs.Splitting.{SplitsMarked, StaysMarked}
use Rattle.dcel_delaunay.specs.Bulk.{AddsVertices, FailsToInsertAll, StandAt}
use Rattle.dcel_delaunay.specs.Removing.{FailsToRemove, Loses}
use Rattle.dcel_delaunay.specs.Triangulated.{mesh_in}
use Rattle.dcel_delaunay.specs.declared.errors.RemovalError.{RemovalError}
use Rattle.dcel_delaunay.specs.declared.errors.RemovalError.TheVariants.{NoVertex, OutOfMemory, TooManyPoints, Unfinished}
use Rattle.dcel_delaunay.specs.declared.removed.Removed.{Removed}
use Rattle.dcel_exports.specs.Answers.{filled}
use Rattle.dcel_planar.specs.Outcomes.{FailsToInsert, HasInserted, IsWholeMesh}
use Rattle.dcel_planar.specs.declared.errors.InsertionError.{InsertionError}
use Rattle.dcel_planar.specs.declared.planar.PlanarMesh.{PlanarMesh}
use Rattle.dcel_predicates.specs.declared.point.Point.{Point}
use Rattle.mesh_page.specs.Given.{AreRead, IsAt}
use Rattle.mesh_page.specs.Keeping.{AreEither, IsWhole, IsWholeMarked, Marked, State}
use Rattle.mesh_page.specs.Statuses.{insertion_status, removal_status}
use Rattle.mesh_page.specs.declared.desk.Thing.{Thing}
use Rattle.mesh_page.specs.declared.points.MeshPagePoint.{MeshPagePoint}
use Rattle.std.specs.Prelude.{◌≡◌, ◌⊎◌, ◌-◌, ◌^◌, ℕ, [], List, length, unwrap_or}

pub record HasNoPoints (t : State) : Type 0 where
  pub empty : (mesh_in t).vertex_data ≡ []
  pub whole : IsWhole t

-- nor a constraint
pub record HasNoConstraints (t : Marked) : Type 0 where
  pub empty : (marked_mesh t).vertex_data ≡ []
  pub free : HasNoConstraint (marked_mesh t)
  pub whole : IsWholeMarked t

-- what answers where there is no element
abbrev pub nowhere : ℕ
nowhere = 2 ^ 64 - 1

-- the old number of the vertex that has the removed one's number now
abbrev pub moved_told : Removed → ℕ
moved_told removed = unwrap_or removed.moved nowhere

-- what is told after an error: where the vertex is gone all the same, which one was moved
abbrev pub moved_after : RemovalError → ℕ → ℕ
moved_after NoVertex before = before
moved_after TooManyPoints before = before
moved_after OutOfMemory before = before
moved_after (Unfinished removed) before = moved_told removed

-- of the points of a triangulation, with or without constraints
module _ {UE A : Type 0} where
  -- a whole one stays as it is where its vertices do
  abbrev pub Settles : PlanarMesh UE A → PlanarMesh UE A → Type 0
  Settles old new = IsWholeMesh old → new.dcel.vertex_data ≡ old.dcel.vertex_data → new.dcel ≡ old.dcel

  -- the vertex has the point that is given: it stood there before, or it is new, and the others keep theirs
  pub record InsertsPoint (given : MeshPagePoint) (vertex : ℕ) (old new : PlanarMesh UE A) : Type 0 where
    pub point : Point
    pub is : IsAt given point
    pub inserted : HasInserted old new point vertex
    pub whole : IsWholeMesh new
    pub same : Settles old new

  -- it isn't inserted, or not all is done that belongs to it
  pub record FailsToInsertPoint (given : MeshPagePoint) (status : ℕ) (old new : PlanarMesh UE A) : Type 0 where
    pub point : Point
    pub is : IsAt given point
    pub error : InsertionError
    pub why : status ≡ insertion_status error
    pub fails : FailsToInsert old new point error

  -- each point stands at the vertex whose number is put into the buffer in its row, and each new vertex at one of the points
  pub record InsertsEach (given : List MeshPagePoint) (before after : List ℕ) (old new : PlanarMesh UE A) : Type 0 where
    pub points : List Point
    pub are : AreRead given points
    pub vertices : List ℕ
    pub stand : StandAt new.dcel points vertices
    pub put : after ≡ filled vertices before
    pub adds : AddsVertices old.dcel new.dcel points (length points)
    pub whole : IsWholeMesh new
    pub same : Settles old new

  -- some may be inserted, and the rest isn't
  pub record FailsAmong (given : List MeshPagePoint) (status : ℕ) (old new : PlanarMesh UE A) : Type 0 where
    pub points : List Point
    pub are : AreRead given points
    pub error : InsertionError
    pub why : status ≡ insertion_status error
    pub fails : FailsToInsertAll old new error
    pub adds : AddsVertices old.dcel new.dcel points (length points)
    pub same : Settles old new

  -- the vertex is gone with its point, and what is told is the one that was moved
  pub record RemovesVertex (vertex moved : ℕ) (old new : PlanarMesh UE A) : Type 0 where
    pub removed : Removed
    pub loses : Loses old.dcel new.dcel vertex removed
    pub told : moved ≡ moved_told removed
    pub whole : IsWholeMesh new

  -- it isn't, or not all is done that belongs to it
  pub record FailsToRemoveVertex (vertex status before after : ℕ) (old new : PlanarMesh UE A) : Type 0 where
    pub error : RemovalError
    pub why : status ≡ removal_status error
    pub fails : FailsToRemove old new vertex error
    pub told : after ≡ moved_after error before

  -- all is done that was left undone, and the vertices keep their points
  pub record FinishesPoints (old new : PlanarMesh UE A) : Type 0 where
    pub points : new.dcel.vertex_data ≡ old.dcel.vertex_data
    pub whole : IsWholeMesh new
    pub same : IsWholeMesh old → new.dcel ≡ old.dcel

  -- something is still undone
  pub record LeavesPoints (old new : PlanarMesh UE A) : Type 0 where
    pub points : new.dcel.vertex_data ≡ old.dcel.vertex_data
    pub before : ¬ IsWholeMesh old
    pub after : ¬ IsWholeMesh new

-- what a removal that fails leaves of the constraints
pub record LeavesMarks (vertex status : ℕ) (old new : Marked) : Type 0 where
  pub error : RemovalError
  pub why : status ≡ removal_status error
  pub left : LeavesConstraints (marked_mesh old) (marked_mesh new) vertex error

-- Of what is on a desk. Constraints stay if a point is inserted, in one or more parts
abbrev pub Inserts : MeshPagePoint → ℕ → Thing → Thing → Type 0
Inserts given vertex =
    AreEither (λ old new. InsertsPoint given vertex old.planar new.planar)
    (λ old new. InsertsPoint given vertex old.planar new.planar × SplitsMarked (marked_mesh old) (marked_mesh new))

abbrev pub FailsToInsertOne : MeshPagePoint → ℕ → Thing → Thing → Type 0
FailsToInsertOne given status =
    AreEither (λ old new. FailsToInsertPoint given status old.planar new.planar)
    (λ old new. FailsToInsertPoint given status old.planar new.planar × SplitsMarked (marked_mesh old) (marked_mesh new))

abbrev pub InsertsAll : List MeshPagePoint → List ℕ → List ℕ → Thing → Thing → Type 0
InsertsAll given before after =
    AreEither (λ old new. InsertsEach given before after old.planar new.planar)
    (λ old new. InsertsEach given before after old.planar new.planar × SplitsMarked (marked_mesh old) (marked_mesh new))

-- there is no memory to read them, or it fails among them
abbrev pub FailsToInsertAllOf : List MeshPagePoint → ℕ → Thing → Thing → Type 0
FailsToInsertAllOf given status =
    AreEither (λ old new. ((status ≡ 2) × (new ≡ old)) ⊎ FailsAmong given status old.planar new.planar)
    (λ old new. ((status ≡ 2) × (new ≡ old)) ⊎ (FailsAmong given status old.planar new.planar × SplitsMarked (marked_mesh old) (marked_mesh new)))

-- constraints that end at a vertex go with it, and all others stay
abbrev pub Removes : ℕ → ℕ → Thing → Thing → Type 0
Removes vertex moved =
    AreEither (λ old new. RemovesVertex vertex moved old.planar new.planar)
    (λ old new. RemovesVertex vertex moved old.planar new.planar × LosesConstraintsOf (marked_mesh old) (marked_mesh new) vertex)

abbrev pub FailsToRemoveOne : (vertex status before after : ℕ) → Thing → Thing → Type 0
FailsToRemoveOne vertex status before after =
    AreEither (λ old new. FailsToRemoveVertex vertex status before after old.planar new.planar)
    (λ old new. FailsToRemoveVertex vertex status before after old.planar new.planar × LeavesMarks vertex status old new)

abbrev pub Finishes : Thing → Thing → Type 0
Finishes =
    AreEither (λ old new. FinishesPoints old.planar new.planar)
    (λ old new. FinishesPoints old.planar new.planar × StaysMarked (marked_mesh old) (marked_mesh new))

abbrev pub StaysUnfinished : Thing → Thing → Type 0
StaysUnfinished =
    AreEither (λ old new. LeavesPoints old.planar new.planar)
    (λ old new. LeavesPoints old.planar new.planar × StaysMarked (marked_mesh old) (marked_mesh new))
