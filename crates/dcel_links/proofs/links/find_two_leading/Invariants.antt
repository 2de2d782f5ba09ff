use Rattle.std.proofs.Common.{◌≡◌, ℕ, ◌<◌, slice_index}
use Rattle.dcel_links.proofs.links.find_two_leading.Given as goal

abbrev pub invariant-loop-half : goal.invariant-loop-half
invariant-loop-half l = (h : ℕ) → h < l.half → slice_index l.prev (slice_index l.next h) ≡ h
