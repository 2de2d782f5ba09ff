use Rattle.std.proofs.Common.{◌≡◌, ◌+◌, length}
use Rattle.dcel_convenience.specs.Removing.{border_from}
use Rattle.dcel_convenience.proofs.taking_out.border_length.Given as goal

abbrev pub invariant-loop : goal.invariant-loop
invariant-loop g l = l.count + length l.iterator'.items ≡ length (border_from l.fn.first.dcel.now.shape l.fn.first.number)
