use Rattle.std.proofs.Common.{◌≢◌, ℕ, ◌<◌, None, length, slice_index}
use Rattle.dcel_links.specs.Anchors.{anchor_of}
use Rattle.dcel_links.proofs.anchors.find_missing.Given as goal

abbrev pub invariant-loop-half : goal.invariant-loop-half
invariant-loop-half l = (h : ℕ) → h < l.half → slice_index l.labels h < length l.anchors → anchor_of l.anchors (slice_index l.labels h) ≢ None
