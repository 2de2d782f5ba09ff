use Rattle.std.proofs.Common.{◌≡◌, length}
use Rattle.dcel_maps.specs.Shapes.{end_of}
use Rattle.dcel_planar.proofs.Searching.{IsSearching}
use Rattle.dcel_constrained.proofs.segments.edges.edge_between.Given as goal

abbrev pub invariant-loop-edge : goal.invariant-loop-edge
invariant-loop-edge g l =
    IsSearching (λ h. end_of l.dcel.shape h ≡ l.to) l.dcel l.from l.ahead.items × IsSearching (λ h. end_of l.dcel.shape h ≡ l.from) l.dcel l.to l.back.items

abbrev pub decreases-loop-edge : goal.decreases-loop-edge
decreases-loop-edge g l = length l.ahead.items
