use Rattle.std.proofs.Common.{◌≡◌, ℕ, ◌<◌, length, slice_index}
use Rattle.dcel_links.specs.Faults.{turned}
use Rattle.dcel_links.proofs.links.list_turns.Given as goal

abbrev pub invariant-loop-half : goal.invariant-loop-half
invariant-loop-half g l = record {
  as_many : length l.turns.items ≡ l.half;
  each : (h : ℕ) → h < l.half → slice_index l.turns.items h ≡ turned l.next h;
}
