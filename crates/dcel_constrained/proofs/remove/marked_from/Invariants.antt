use Rattle.std.proofs.Common.{◌/◌, length}
use Rattle.dcel_maps.specs.Shapes.{origin_of}
use Rattle.dcel_planar.proofs.Searching.{IsSearching}
use Rattle.dcel_regions.specs.Marked.{IsMarked}
use Rattle.dcel_constrained.proofs.remove.marked_from.Given as goal

abbrev pub invariant-loop-edge : goal.invariant-loop-edge
invariant-loop-edge g l = IsSearching (λ h. IsMarked l.dcel (h / 2)) l.dcel (origin_of l.dcel.shape l.fn.half) l.edges.items

abbrev pub decreases-loop-edge : goal.decreases-loop-edge
decreases-loop-edge g l = length l.edges.items
