use Rattle.std.proofs.Common.{◌≤◌, length}
use Rattle.dcel_text.specs.Items.{left}
use Rattle.dcel_text.proofs.Runs.{Runs}
use Rattle.dcel_commands.proofs.given.numbers.Given as goal

abbrev pub invariant-loop-number : goal.invariant-loop-number
invariant-loop-number g l = record {
  runs : Runs (left l.fn.rest) l.list.items (left l.others);
  room : l.count ≤ l.list.cap;
}

abbrev pub decreases-loop-number : goal.decreases-loop-number
decreases-loop-number g l = length (left l.others)
