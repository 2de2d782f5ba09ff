use Rattle.std.proofs.Common.{ℕ, ◌<◌, get_or}
use Rattle.dcel_commands.proofs.asking.are_below.Given as goal

abbrev pub invariant-loop-element : goal.invariant-loop-element
invariant-loop-element g l = (k d : ℕ) → k < l.element-index → get_or l.elements k d < l.count
