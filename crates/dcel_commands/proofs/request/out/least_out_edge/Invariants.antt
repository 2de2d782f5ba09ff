use Rattle.std.proofs.Common.{◌≡◌}
use Rattle.spade_dcel.specs.Handles.{mesh_behind, number_of}
use Rattle.dcel_maps.specs.Walking.{IsOutEdge}
use Rattle.dcel_commands.proofs.OutEdges.{LeastSeen}
use Rattle.dcel_commands.proofs.request.out.least_out_edge.Given as goal

abbrev pub invariant-loop-edge : goal.invariant-loop-edge
invariant-loop-edge g l = record {
  mesh : mesh_behind l.least ≡ mesh_behind l.fn.vertex;
  seen : LeastSeen (mesh_behind l.fn.vertex) l.edge-iterator.items (IsOutEdge (mesh_behind l.fn.vertex).shape (number_of l.fn.vertex)) (number_of l.least);
}
