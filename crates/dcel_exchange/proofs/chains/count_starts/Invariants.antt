use Rattle.std.proofs.Common.{◌≡◌, ℕ, ◌<◌, ◌==◌, count_by, length, slice_index, take}
use Rattle.dcel_exchange.proofs.chains.count_starts.Given as goal

abbrev pub invariant-loop-start : goal.invariant-loop-start
invariant-loop-start g l = record {
  places : length l.counts.items ≡ l.fn.vertices;
  counts : (v : ℕ) → v < l.fn.vertices → slice_index l.counts.items v ≡ count_by (λ start. start == v) (take l.start-index l.from);
}
