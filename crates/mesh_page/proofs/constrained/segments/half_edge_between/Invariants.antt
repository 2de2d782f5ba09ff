use Rattle.std.proofs.Common.{◌≡◌, ◌/◌, length}
use Rattle.dcel_maps.specs.Shapes.{end_of}
use Rattle.dcel_planar.proofs.Searching.{IsSearching}
use Rattle.dcel_regions.specs.Marked.{IsMarked}
use Rattle.mesh_page.proofs.constrained.segments.half_edge_between.Given as goal

abbrev pub invariant-loop-edge : goal.invariant-loop-edge
invariant-loop-edge g l = IsSearching (λ h. (end_of l.mesh.shape h ≡ l.to) × IsMarked l.mesh (h / 2)) l.mesh l.fn.from l.edges.items

abbrev pub decreases-loop-edge : goal.decreases-loop-edge
decreases-loop-edge g l = length l.edges.items
