use Rattle.std.proofs.Common.{◌+◌, ◌-◌, ◌*◌, ◌≤◌, ℕ, Bool, List, vec_len}
use Rattle.std.specs.Fn.{FnReturnsAt}
use Rattle.dcel_maps.specs.EditLists.{EditedBy, flip_edits}
use Rattle.dcel_maps.specs.Shapes.{IsMesh}
use Rattle.dcel_legalize.specs.Flipping.{AnswersAs}
use Rattle.dcel_legalize.proofs.Course.{IsUnderWay}
use Rattle.dcel_legalize.proofs.legalize.legalize_edges.Given as goal

-- what is left to do completes the run
abbrev pub invariant-loop-edge : goal.invariant-loop-edge
invariant-loop-edge g l = record {
  mesh : IsMesh l.dcel;
  few : l.flips ≤ l.max_flips;
  edits : EditedBy (flip_edits l.flips) l.fn.dcel l.dcel;
  way : (w : List ℕ → Bool) → AnswersAs (FnReturnsAt g.W.Fn l.wanted) w → IsUnderWay w l.fn.dcel l.fn.list.items l.max_flips l.dcel l.list.items l.flips;
}

-- a flip takes one edge off the list and puts five on
abbrev pub decreases-loop-edge : goal.decreases-loop-edge
decreases-loop-edge g l = 6 * (l.max_flips - l.flips) + vec_len l.list
