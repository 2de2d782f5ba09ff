use Rattle.std.proofs.Common.{◌≡◌, ℕ, List, length}
use Rattle.dcel_text.specs.Items.{left}
use Rattle.dcel_text.proofs.Runs.{Runs}
use Rattle.dcel_text.proofs.items.count_numbers.Given as goal

abbrev pub invariant-loop-count : goal.invariant-loop-count
invariant-loop-count l = record {
  numbers : List ℕ;
  runs : Runs (left l.fn.rest) numbers (left l.others);
  counted : l.count ≡ length numbers;
}
