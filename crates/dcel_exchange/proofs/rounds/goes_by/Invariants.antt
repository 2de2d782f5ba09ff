use Rattle.std.proofs.Common.{length, slice_index}
use Rattle.std.specs.Prelude.{◌↔◌}
use Rattle.dcel_exchange.specs.Rounds.{GoesBy}
use Rattle.dcel_exchange.proofs.rounds.goes_by.Given as goal

-- what is left is gone by just where the whole is
abbrev pub invariant-loop-corner : goal.invariant-loop-corner
invariant-loop-corner g l = GoesBy l.links l.first l.start l.half l.left ↔ GoesBy l.links l.first l.start (slice_index l.links.next.items l.start) l.fn.corners

abbrev pub decreases-loop-corner : goal.decreases-loop-corner
decreases-loop-corner g l = length l.left
