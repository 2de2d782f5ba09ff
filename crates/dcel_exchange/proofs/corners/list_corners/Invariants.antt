use Rattle.std.proofs.Common.{◌≡◌, ◌++◌}
use Rattle.dcel_exchange.proofs.corners.list_corners.Given as goal

abbrev pub invariant-loop-corner : goal.invariant-loop-corner
invariant-loop-corner g l = l.list.items ++ l.corner-iterator ≡ l.fn.corners
