use Rattle.std.proofs.Common.{◌≡◌, ◌≤◌, ◌-◌, ◌++◌, take, drop}
use Rattle.mesh_page.proofs.delaunay.changing.put_numbers.Given as goal

-- the first numbers were put
abbrev pub invariant-loop-at : goal.invariant-loop-at
invariant-loop-at l = record {
  up_to : l.at ≤ l.fitting;
  put : l.buffer ≡ take l.at l.list ++ drop l.at l.fn.buffer;
}

abbrev pub decreases-loop-at : goal.decreases-loop-at
decreases-loop-at l = l.fitting - l.at
