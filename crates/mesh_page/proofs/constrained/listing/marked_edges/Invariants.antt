use Rattle.std.proofs.Common.{◌≡◌, ◌≤◌, ◌-◌, filter, length, map}
use Rattle.dcel_constrained.specs.Constrained.{marked_mesh}
use Rattle.dcel_constrained.specs.Sight.{hides}
use Rattle.dcel_delaunay.specs.Lists.{ends_of}
use Rattle.dcel_maps.specs.Numbers.{numbers_between}
use Rattle.mesh_page.proofs.constrained.listing.marked_edges.Given as goal

-- the constraints among the first edges were listed
abbrev pub invariant-loop-number : goal.invariant-loop-number
invariant-loop-number l = record {
  up_to : l.number ≤ length l.edges.items;
  list : l.list.items ≡ map (ends_of (marked_mesh l.points).shape) (filter (hides (marked_mesh l.points)) (numbers_between 0 l.number));
}

abbrev pub decreases-loop-number : goal.decreases-loop-number
decreases-loop-number l = length l.edges.items - l.number
