use Rattle.std.proofs.Common.{◌≡◌, length}
use Rattle.std.specs.List.{All}
use Rattle.dcel_exchange.specs.Defaults.{HasDefaults}
use Rattle.dcel_exchange.proofs.faces.make_edges.Given as goal

abbrev pub invariant-loop-number : goal.invariant-loop-number
invariant-loop-number g l = record {
  count : length l.made.items ≡ l.number;
  each : All (HasDefaults g.DE.Default.is_default g.UE.Default.is_default) l.made.items;
}
