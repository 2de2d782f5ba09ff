use Rattle.std.proofs.Common.{◌≡◌, ℕ, ◌<◌, ◌/◌, Some, slice_get}
use Rattle.dcel_regions.specs.Marked.{IsMarked}
use Rattle.dcel_constrained.proofs.segments.chains.is_some_marked.Given as goal

abbrev pub invariant-loop-at : goal.invariant-loop-at
invariant-loop-at g l = (i h : ℕ) → i < l.at → slice_get l.halves i ≡ Some h → ¬ IsMarked l.dcel (h / 2)
