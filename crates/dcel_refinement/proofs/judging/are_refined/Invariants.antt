use Rattle.std.proofs.Common.{ℕ, ◌<◌}
use Rattle.dcel_maps.specs.Shapes.{face_of}
use Rattle.dcel_refinement.specs.Quality.{IsFlagged, IsGoodAt}
use Rattle.dcel_refinement.proofs.judging.are_refined.Given as goal

-- the corners so far are good where they are to be
abbrev pub invariant-loop-index : goal.invariant-loop-index
invariant-loop-index g l = (h : ℕ) → h < l.index → IsFlagged l.is_wanted (face_of l.mesh.shape h) → IsGoodAt l.mesh l.parameters h
