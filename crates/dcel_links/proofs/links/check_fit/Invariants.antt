use Rattle.std.proofs.Common.{◌≡◌, ◌≢◌, ℕ, ◌<◌, slice_index}
use Rattle.dcel_fixed.specs.HalfEdges.{rev}
use Rattle.dcel_links.proofs.links.check_fit.Given as goal

abbrev pub invariant-loop-half : goal.invariant-loop-half
invariant-loop-half l = record {
  two_ends : (h : ℕ) → h < l.half → slice_index l.origin h ≢ slice_index l.origin (rev h);
  joined : (h : ℕ) → h < l.half → slice_index l.origin (slice_index l.next h) ≡ slice_index l.origin (rev h);
  same_face : (h : ℕ) → h < l.half → slice_index l.face (slice_index l.next h) ≡ slice_index l.face h;
}
