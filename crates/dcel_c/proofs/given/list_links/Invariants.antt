use Rattle.std.proofs.Common.{◌≡◌, ◌≤◌, ◌-◌, length, map, take}
use Rattle.dcel_c.proofs.given.list_links.Given as goal

-- the links of the first half edges were listed
abbrev pub invariant-loop-at : goal.invariant-loop-at
invariant-loop-at l = record {
  up_to : l.at ≤ length l.half_edges;
  next : l.next.items ≡ map (λ half. half.next) (take l.at l.half_edges);
  origin : l.origin.items ≡ map (λ half. half.origin) (take l.at l.half_edges);
  face : l.face.items ≡ map (λ half. half.face) (take l.at l.half_edges);
}

abbrev pub decreases-loop-at : goal.decreases-loop-at
decreases-loop-at l = length l.half_edges - l.at
