use Rattle.std.proofs.Common.{ℕ, ◌<◌}
use Rattle.dcel_maps.specs.Shapes.{face_of}
use Rattle.dcel_refinement.specs.Quality.{IsGoodAt, IsRefined}
use Rattle.dcel_refinement.proofs.judging.is_good.Given as goal

-- the corners so far are good where they are to be
abbrev pub invariant-loop-number : goal.invariant-loop-number
invariant-loop-number g l = (h : ℕ) → h < l.number → IsRefined l.mesh l.parameters.faces (face_of l.mesh.shape h) → IsGoodAt l.mesh l.parameters h
