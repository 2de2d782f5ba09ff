use Rattle.std.proofs.Common.{◌≡◌, length}
use Rattle.std.specs.List.{All}
use Rattle.dcel_c.specs.Calls.{IsZero}
use Rattle.dcel_c.proofs.given.make_edges.Given as goal
use Rattle.dcel_exchange.specs.Defaults.{HasDefaults}

abbrev pub invariant-loop-number : goal.invariant-loop-number
invariant-loop-number l = record {
  count : length l.edges.items ≡ l.number;
  each : All (HasDefaults IsZero IsZero) l.edges.items;
}
