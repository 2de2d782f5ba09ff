use Rattle.std.proofs.Common.{ℕ, ◌<◌, length, slice_index}
use Rattle.dcel_links.proofs.links.check_ranges.Given as goal

abbrev pub invariant-loop-half : goal.invariant-loop-half
invariant-loop-half l = record {
  next : (h : ℕ) → h < l.half → slice_index l.next h < length l.next;
  origin : (h : ℕ) → h < l.half → slice_index l.origin h < l.vertices;
  face : (h : ℕ) → h < l.half → slice_index l.face h < l.faces;
}
