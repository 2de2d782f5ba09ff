use Rattle.std.proofs.Common.{◌≢◌, ℕ, ◌<◌, slice_index}
use Rattle.dcel_exchange.proofs.sides.check_ends.Given as goal

abbrev pub invariant-loop-side : goal.invariant-loop-side
invariant-loop-side g l = record {
  below : (p : ℕ) → p < l.side → slice_index l.sides.from.items p < l.fn.vertices;
  apart : (p : ℕ) → p < l.side → slice_index l.sides.from.items p ≢ slice_index l.sides.to.items p;
}
