-- Constraints freed.
use Rattle.dcel_constrained.specs.Constrained.{marked_mesh}
use Rattle.dcel_constrained.specs.Soundness.{MarksAllBut}
use Rattle.dcel_regions.specs.Marked.{IsMarked}
use Rattle.dcel_triangulations.specs.constrained.Calls.{IsWhole}
use Rattle.dcel_triangulations.specs.constrained.Held.{State}
use Rattle.std.specs.Prelude.{◌≡◌, ◌↔◌, ℕ, Bool, IsTrue}

-- the edge is no constraint any more, and all others are constraints as before; if it was none, a whole triangulation is as it was
pub record FreesEdge (edge : ℕ) (was : Bool) (old new : State) : Type 0 where
  pub told : IsTrue was ↔ IsMarked (marked_mesh old) edge
  pub freed : ¬ IsMarked (marked_mesh new) edge
  pub others : MarksAllBut (marked_mesh old) (marked_mesh new) edge
  pub points : (marked_mesh new).vertex_data ≡ (marked_mesh old).vertex_data
  pub whole : IsWhole new
  pub same : ¬ IsTrue was → IsWhole old → marked_mesh new ≡ marked_mesh old

-- there is no memory: the edge is as before, and so is all else, or it is freed
pub record FailsToFreeEdge (edge : ℕ) (old new : State) : Type 0 where
  pub others : MarksAllBut (marked_mesh old) (marked_mesh new) edge
  pub points : (marked_mesh new).vertex_data ≡ (marked_mesh old).vertex_data
  pub same : IsMarked (marked_mesh new) edge → marked_mesh new ≡ marked_mesh old
  pub reason : IsWhole old → ¬ (¬ IsMarked (marked_mesh old) edge)
