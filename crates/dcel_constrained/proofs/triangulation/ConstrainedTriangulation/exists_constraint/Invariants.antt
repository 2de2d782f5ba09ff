use Rattle.std.proofs.Common.{◌≡◌, ◌/◌, length}
use Rattle.dcel_maps.specs.Shapes.{end_of}
use Rattle.dcel_planar.proofs.Searching.{IsSearching}
use Rattle.dcel_regions.specs.Marked.{IsMarked}
use Rattle.dcel_constrained.proofs.triangulation.ConstrainedTriangulation.exists_constraint.Given as goal

abbrev pub invariant-loop-edge : goal.invariant-loop-edge
invariant-loop-edge g l = IsSearching (λ h. (end_of l.self.planar.dcel.shape h ≡ l.to) × IsMarked l.self.planar.dcel (h / 2)) l.self.planar.dcel l.fn.from l.edges.items

abbrev pub decreases-loop-edge : goal.decreases-loop-edge
decreases-loop-edge g l = length l.edges.items
