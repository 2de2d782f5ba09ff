use Rattle.std.proofs.Common.{◌≡◌, ◌↔◌, ◌<◌, true, length}
use Rattle.dcel_maps.specs.Shapes.{face_is_live}
use Rattle.dcel_maps.specs.theory.RingTests.{EachOf}
use Rattle.spade_dcel.proofs.dcel.Dcel.are_inner.Given as goal

abbrev pub invariant-loop-face : goal.invariant-loop-face
invariant-loop-face g l =
    EachOf (λ f. (0 < f) × (face_is_live l.self.shape f ≡ true)) l.left ↔ EachOf (λ f. (0 < f) × (face_is_live l.self.shape f ≡ true)) l.fn.faces

abbrev pub decreases-loop-face : goal.decreases-loop-face
decreases-loop-face g l = length l.left
