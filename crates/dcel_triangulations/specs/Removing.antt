-- Vertices removed.
use Rattle.dcel_delaunay.specs.Removing.{FailsToRemove, Loses}
use Rattle.dcel_delaunay.specs.Triangulated.{mesh_in}
use Rattle.dcel_delaunay.specs.declared.errors.RemovalError.{RemovalError}
use Rattle.dcel_delaunay.specs.declared.errors.RemovalError.TheVariants.{NoVertex, OutOfMemory, TooManyPoints, Unfinished}
use Rattle.dcel_delaunay.specs.declared.removed.Removed.{Removed}
use Rattle.dcel_triangulations.specs.Calls.{IsWhole, nowhere}
use Rattle.dcel_triangulations.specs.Held.{State}
use Rattle.dcel_triangulations.specs.Statuses.{removal_status}
use Rattle.std.specs.Prelude.{◌≡◌, ℕ, unwrap_or}

-- the old number of the vertex that has the removed one's number now
abbrev pub moved_told : Removed → ℕ
moved_told removed = unwrap_or removed.moved nowhere

-- the vertex is gone with its point, and what is told is the one that was moved
pub record RemovesVertex (vertex moved : ℕ) (old new : State) : Type 0 where
  pub removed : Removed
  pub loses : Loses (mesh_in old) (mesh_in new) vertex removed
  pub told : moved ≡ moved_told removed
  pub whole : IsWhole new

-- what is told after an error: where the vertex is gone all the same, which one was moved
abbrev pub moved_after : RemovalError → ℕ → ℕ
moved_after NoVertex before = before
moved_after TooManyPoints before = before
moved_after OutOfMemory before = before
moved_after (Unfinished removed) before = moved_told removed

-- it isn't, or not all is done that belongs to it
pub record FailsToRemoveVertex (vertex status before after : ℕ) (old new : State) : Type 0 where
  pub error : RemovalError
  pub why : status ≡ removal_status error
  pub fails : FailsToRemove old.planar new.planar vertex error
  pub told : after ≡ moved_after error before
