-- Vertices removed with the constraints that end at them.
use Rattle.dcel_constrained.specs.Constrained.{marked_mesh}
use Rattle.dcel_constrained.specs.Removing.{LeavesConstraints, LosesConstraintsOf}
use Rattle.dcel_delaunay.specs.Removing.{FailsToRemove, Loses}
use Rattle.dcel_delaunay.specs.declared.errors.RemovalError.{RemovalError}
use Rattle.dcel_delaunay.specs.declared.removed.Removed.{Removed}
use Rattle.dcel_triangulations.specs.Removing.{moved_after, moved_told}
use Rattle.dcel_triangulations.specs.Statuses.{removal_status}
use Rattle.dcel_triangulations.specs.constrained.Calls.{IsWhole}
use Rattle.dcel_triangulations.specs.constrained.Held.{State}
use Rattle.std.specs.Prelude.{◌≡◌, ℕ}

-- the vertex is gone with its point and its constraints, no others are, and what is told is the one that was moved
pub record RemovesVertex (vertex moved : ℕ) (old new : State) : Type 0 where
  pub removed : Removed
  pub loses : Loses (marked_mesh old) (marked_mesh new) vertex removed
  pub constraints : LosesConstraintsOf (marked_mesh old) (marked_mesh new) vertex
  pub told : moved ≡ moved_told removed
  pub whole : IsWhole new

-- it isn't, or not all is done that belongs to it
pub record FailsToRemoveVertex (vertex status before after : ℕ) (old new : State) : Type 0 where
  pub error : RemovalError
  pub why : status ≡ removal_status error
  pub fails : FailsToRemove old.planar new.planar vertex error
  pub left : LeavesConstraints (marked_mesh old) (marked_mesh new) vertex error
  pub told : after ≡ moved_after error before
