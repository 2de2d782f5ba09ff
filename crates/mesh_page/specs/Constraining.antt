-- Constraints added, freed and asked for.
use Rattle.dcel_constrained.specs.Blocking.{FailsToAdd}
use Rattle.dcel_constrained.specs.Constrained.{marked_mesh}
use Rattle.dcel_constrained.specs.Constraints.{HasConstraint, KeepsMarked, MarksOnly}
use Rattle.dcel_constrained.specs.Soundness.{AreConstrained, MarksAllBut, MarksAnother}
use Rattle.dcel_constrained.specs.declared.errors.ConstraintError.{ConstraintError}
use Rattle.dcel_maps.specs.Walking.{Leads}
use Rattle.dcel_regions.specs.Marked.{IsMarked}
use Rattle.lent_heap.specs.declared.heap.Heap.{Heap}
use Rattle.mesh_page.specs.Changing.{FinishesPoints, LeavesPoints}
use Rattle.mesh_page.specs.Keeping.{IsWholeMarked, Marked}
use Rattle.mesh_page.specs.Statuses.{constraint_status}
use Rattle.dcel_constrained.specs.Splitting.{StaysMarked}
use Rattle.std.specs.Prelude.{◌≡◌, ◌⊎◌, ◌/◌, ℕ, Bool, true, false}
use denote.Ref.{Bor}

-- the segment is one of constraints; those of before still are, and no others
pub record AddsSegment (from to : ℕ) (old new : Marked) : Type 0 where
  pub constrained : HasConstraint (marked_mesh new) from to
  pub keeps : KeepsMarked (marked_mesh old) (marked_mesh new)
  pub only : MarksOnly (marked_mesh old) (marked_mesh new) from to
  pub points : (marked_mesh new).vertex_data ≡ (marked_mesh old).vertex_data
  pub whole : IsWholeMarked new
  pub same : IsWholeMarked old → ¬ MarksAnother (marked_mesh old) (marked_mesh new) → marked_mesh new ≡ marked_mesh old

-- it isn't, or only a part of it is
pub record FailsToAddSegment (from to status : ℕ) (old new : Marked) : Type 0 where
  pub error : ConstraintError (Bor Heap)
  pub why : status ≡ constraint_status error
  pub fails : FailsToAdd old.planar new.planar from to error
  pub keeps : KeepsMarked (marked_mesh old) (marked_mesh new)
  pub only : MarksOnly (marked_mesh old) (marked_mesh new) from to
  pub points : (marked_mesh new).vertex_data ≡ (marked_mesh old).vertex_data
  pub same : IsWholeMarked old → ¬ MarksAnother (marked_mesh old) (marked_mesh new) → (marked_mesh new ≡ marked_mesh old) × IsWholeMarked new

-- the edge u is a constraint from v to w
pub record IsConstraintBetween (t : Marked) (v w u : ℕ) : Type 0 where
  pub half : ℕ
  pub leads : Leads (marked_mesh t).shape v w half
  pub edge : half / 2 ≡ u
  pub marked : IsMarked (marked_mesh t) u

-- a constraint between the vertices is none any more, and all others stay
pub record FreesConstraint (from to : ℕ) (old new : Marked) : Type 0 where
  pub edge : ℕ
  pub between : IsConstraintBetween old from to edge
  pub freed : ¬ IsMarked (marked_mesh new) edge
  pub others : MarksAllBut (marked_mesh old) (marked_mesh new) edge
  pub points : (marked_mesh new).vertex_data ≡ (marked_mesh old).vertex_data
  pub whole : IsWholeMarked new

-- it is, or there was none, and then a whole triangulation stays as it is
abbrev pub FreesIf : (from to : ℕ) → Bool → Marked → Marked → Type 0
FreesIf from to true old new = FreesConstraint from to old new
FreesIf from to false old new =
    (¬ AreConstrained (marked_mesh old) from to) × FinishesPoints old.planar new.planar × StaysMarked (marked_mesh old) (marked_mesh new)

-- there is no memory: the constraint is as before, and so is all else, or it is freed
pub record FailsToFree (from to : ℕ) (old new : Marked) : Type 0 where
  pub edge : ℕ
  pub between : IsConstraintBetween old from to edge
  pub others : MarksAllBut (marked_mesh old) (marked_mesh new) edge
  pub points : (marked_mesh new).vertex_data ≡ (marked_mesh old).vertex_data
  pub same : IsMarked (marked_mesh new) edge → marked_mesh new ≡ marked_mesh old

-- or there was none, and something is still undone
abbrev pub FailsToFreeIf : (from to : ℕ) → Marked → Marked → Type 0
FailsToFreeIf from to old new =
    FailsToFree from to old new
    ⊎ ((¬ AreConstrained (marked_mesh old) from to) × LeavesPoints old.planar new.planar × StaysMarked (marked_mesh old) (marked_mesh new))
