use Rattle.std.proofs.Common.{ℕ, ◌<◌}
use Rattle.std.specs.Prelude.{IfSome}
use Rattle.dcel_links.specs.Anchors.{IsAnchoredAt, anchor_of}
use Rattle.dcel_links.proofs.anchors.find_misplaced.Given as goal

abbrev pub invariant-loop-number : goal.invariant-loop-number
invariant-loop-number l = (v : ℕ) → v < l.number → IfSome (anchor_of l.anchors v) (IsAnchoredAt l.labels v)
