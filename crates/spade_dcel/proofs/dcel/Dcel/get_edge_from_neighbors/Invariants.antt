use Rattle.std.proofs.Common.{◌≡◌, IfSome, length}
use Rattle.std.specs.Option.{option_map}
use Rattle.dcel_maps.proofs.walks.Searching.{IsSearching}
use Rattle.dcel_maps.specs.Walking.{Leads}
use Rattle.spade_dcel.proofs.dcel.Dcel.get_edge_from_neighbors.Given as goal
use Rattle.spade_dcel.specs.Handles.{mesh_behind, number_of}

abbrev pub invariant-loop-edge : goal.invariant-loop-edge
invariant-loop-edge g l =
    IsSearching l.self l.fn.from l.fn.to l.edges.items (option_map (λ edge. number_of edge) l.found)
    × IfSome l.found (λ edge. (mesh_behind edge ≡ l.self) × Leads l.self.shape l.fn.from l.fn.to (number_of edge))

abbrev pub decreases-loop-edge : goal.decreases-loop-edge
decreases-loop-edge g l = length l.edges.items
