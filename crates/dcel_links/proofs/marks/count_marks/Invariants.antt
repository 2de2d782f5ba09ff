use Rattle.std.proofs.Common.{◌≡◌, ◌≤◌, false, get_or}
use Rattle.dcel_maps.specs.Maps.{count}
use Rattle.dcel_links.proofs.marks.count_marks.Given as goal

abbrev pub invariant-loop-mark : goal.invariant-loop-mark
invariant-loop-mark l = record {
  number : l.found ≡ count (λ k. get_or l.marks k false) l.mark-index;
  at_most : l.found ≤ l.mark-index;
}
