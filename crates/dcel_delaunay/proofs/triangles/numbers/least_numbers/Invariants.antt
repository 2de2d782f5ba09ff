use Rattle.std.proofs.Common.{◌≡◌, ◌≤◌, length}
use Rattle.dcel_delaunay.specs.Listing.{NamesLeast}
use Rattle.dcel_delaunay.proofs.triangles.numbers.least_numbers.Given as goal

-- the points from `left` on have given their vertices a number
abbrev pub invariant-loop-left : goal.invariant-loop-left
invariant-loop-left g l = record {
  up_to : l.left ≤ length l.vertices;
  count : length l.numbers.items ≡ l.fn.count;
  least : NamesLeast l.vertices l.left l.numbers.items;
}

abbrev pub decreases-loop-left : goal.decreases-loop-left
decreases-loop-left g l = l.left
