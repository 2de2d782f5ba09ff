use Rattle.std.proofs.Common.{◌↔◌, ◌<◌, length}
use Rattle.dcel_maps.specs.theory.RingTests.{EachOf, IsCovered}
use Rattle.dcel_maps.specs.Words.{word_of}
use Rattle.spade_dcel.proofs.dcel.Dcel.are_covered.Given as goal

abbrev pub invariant-loop-face : goal.invariant-loop-face
invariant-loop-face g l =
    (EachOf (λ f. EachOf (IsCovered l.fn.edges l.fn.list) (word_of l.self.shape.words f)) l.left
    ↔ EachOf (λ f. EachOf (IsCovered l.fn.edges l.fn.list) (word_of l.self.shape.words f)) l.fn.faces)
    × EachOf (λ f. f < length l.self.shape.words) l.left

abbrev pub decreases-loop-face : goal.decreases-loop-face
decreases-loop-face g l = length l.left
