use Rattle.std.proofs.Common.{◌≡◌, ◌+◌, length}
use Rattle.std.specs.List.{All}
use Rattle.dcel_exchange.proofs.faces.make_faces.Given as goal

abbrev pub invariant-loop-number : goal.invariant-loop-number
invariant-loop-number g l = record {
  count : length l.made.items ≡ l.number + 1;
  each : All (g.F.Default.is_default) l.made.items;
}
