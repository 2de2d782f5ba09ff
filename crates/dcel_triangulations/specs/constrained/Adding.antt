-- Segments made constraints.
use Rattle.dcel_constrained.specs.Blocking.{Blocks, FailsToAdd}
use Rattle.dcel_constrained.specs.Channels.{HasVertices}
use Rattle.dcel_constrained.specs.Constrained.{marked_mesh}
use Rattle.dcel_constrained.specs.Constraints.{HasConstraint, IsPartOf, KeepsMarked, MarksOnly}
use Rattle.dcel_constrained.specs.Soundness.{MarksAnother}
use Rattle.dcel_constrained.specs.declared.errors.ConstraintError.{ConstraintError}
use Rattle.dcel_constrained.specs.declared.errors.ConstraintError.TheVariants.{Blocked, NoVertex, OutOfMemory}
use Rattle.dcel_delaunay.specs.declared.lists.Ends.{Ends}
use Rattle.dcel_maps.specs.Shapes.{Mesh}
use Rattle.dcel_predicates.specs.declared.point.Point.{Point}
use Rattle.dcel_regions.specs.Marked.{IsMarked}
use Rattle.dcel_regions.specs.declared.mark.Mark.{Mark}
use Rattle.dcel_triangulations.specs.constrained.Calls.{IsWhole}
use Rattle.dcel_triangulations.specs.constrained.Held.{State}
use Rattle.std.specs.Global.{Global}
use Rattle.std.specs.Prelude.{◌≡◌, ◌⊎◌, ◌↔◌, ◌<◌, ℕ, Bool, IsTrue, List, slice_get, Some}

abbrev pub constraint_status : ConstraintError Global → ℕ
constraint_status NoVertex = 1
constraint_status (Blocked edges) = 26
constraint_status OutOfMemory = 20

-- the segment is one of constraints, those of before still are, and no others; what is told is whether one is new
pub record AddsSegment (from to : ℕ) (added : Bool) (old new : State) : Type 0 where
  pub constrained : HasConstraint (marked_mesh new) from to
  pub keeps : KeepsMarked (marked_mesh old) (marked_mesh new)
  pub only : MarksOnly (marked_mesh old) (marked_mesh new) from to
  pub points : (marked_mesh new).vertex_data ≡ (marked_mesh old).vertex_data
  pub told : IsTrue added ↔ MarksAnother (marked_mesh old) (marked_mesh new)
  pub whole : IsWhole new
  pub same : IsWhole old → ¬ MarksAnother (marked_mesh old) (marked_mesh new) → marked_mesh new ≡ marked_mesh old

-- it isn't, or only a part of it is
pub record FailsToAddSegment (from to status : ℕ) (old new : State) : Type 0 where
  pub error : ConstraintError Global
  pub why : status ≡ constraint_status error
  pub fails : FailsToAdd old.planar new.planar from to error
  pub keeps : KeepsMarked (marked_mesh old) (marked_mesh new)
  pub only : MarksOnly (marked_mesh old) (marked_mesh new) from to
  pub points : (marked_mesh new).vertex_data ≡ (marked_mesh old).vertex_data
  pub same : IsWhole old → ¬ MarksAnother (marked_mesh old) (marked_mesh new) → (marked_mesh new ≡ marked_mesh old) × IsWhole new

module _ {DE F : Type 0} where
  -- each of the first `count` segments is one of constraints
  abbrev pub AreConstraints : Mesh Point DE Mark F → List Ends → ℕ → Type 0
  AreConstraints m segments count = (i : ℕ) (s : Ends) → i < count → slice_get segments i ≡ Some s → HasConstraint m s.from s.to

  -- each constraint was one before, or is a part of one of the first `count` segments
  abbrev pub ArePartsOfSegments : Mesh Point DE Mark F → Mesh Point DE Mark F → List Ends → ℕ → Type 0
  ArePartsOfSegments old new segments count = (u : ℕ) → IsMarked new u
      → IsMarked old u ⊎ ((i : ℕ) × (s : Ends) × (i < count) × (slice_get segments i ≡ Some s) × IsPartOf new s.from s.to u)

  -- the first `done` segments are constraints, those of before still are, and no others, but parts of the first `tried` segments
  pub record LaysSegments (segments : List Ends) (done tried : ℕ) (old new : Mesh Point DE Mark F) : Type 0 where
    pub laid : AreConstraints new segments done
    pub keeps : KeepsMarked old new
    pub only : ArePartsOfSegments old new segments tried
    pub points : new.vertex_data ≡ old.vertex_data

abbrev pub AddsSegments : List Ends → ℕ → ℕ → State → State → Type 0
AddsSegments segments done tried old new = LaysSegments segments done tried (marked_mesh old) (marked_mesh new)

-- why the segment isn't added: an end is no vertex, or a constraint is in its way
abbrev pub IsRefusedSegment : Ends → ℕ → State → Type 0
IsRefusedSegment s status t =
    ((status ≡ 1) × ¬ HasVertices (marked_mesh t).shape s.from s.to)
    ⊎ ((status ≡ 26) × ((u : ℕ) × Blocks (marked_mesh t) s.from s.to u))

-- the segment after the first `done` isn't added, and all is whole
pub record RefusesSegment (segments : List Ends) (done status : ℕ) (old new : State) : Type 0 where
  pub adds : AddsSegments segments done done old new
  pub segment : Ends
  pub there : slice_get segments done ≡ Some segment
  pub refused : IsRefusedSegment segment status new
  pub whole : IsWhole new
