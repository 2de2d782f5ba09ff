use Rattle.std.proofs.Common.{◌≡◌, ◌≤◌, ◌-◌, ◌++◌, drop}
use Rattle.dcel_c.specs.HalfEdges.{links_below}
use Rattle.dcel_c.proofs.links.put_first.Given as goal

-- the half edges below a number were put
abbrev pub invariant-loop-number : goal.invariant-loop-number
invariant-loop-number l = record {
  up_to : l.number ≤ l.count;
  put : l.half_edges ≡ links_below l.dcel.shape l.number ++ drop l.number l.fn.half_edges;
}

abbrev pub decreases-loop-number : goal.decreases-loop-number
decreases-loop-number l = l.count - l.number
