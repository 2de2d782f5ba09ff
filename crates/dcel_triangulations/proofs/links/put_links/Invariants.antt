use Rattle.std.proofs.Common.{◌≡◌, ◌≤◌, ◌-◌, ◌++◌, take, drop}
use Rattle.dcel_triangulations.specs.Lists.{links_told}
use Rattle.dcel_triangulations.proofs.links.put_links.Given as goal

-- the links of the half edges below a number were put
abbrev pub invariant-loop-number : goal.invariant-loop-number
invariant-loop-number g l = record {
  up_to : l.number ≤ l.count;
  put : l.half_edges ≡ take l.number (links_told l.dcel.shape) ++ drop l.number l.fn.half_edges;
}

abbrev pub decreases-loop-number : goal.decreases-loop-number
decreases-loop-number g l = l.count - l.number
