use Rattle.std.proofs.Common.{◌/◌}
use Rattle.dcel_maps.specs.Shapes.{face_of}
use Rattle.spade_dcel.proofs.Gathering.{GathersRound}
use Rattle.spade_dcel.proofs.operations.fill.lists_round.Given as goal

abbrev pub invariant-loop-out_edge : goal.invariant-loop-out_edge
invariant-loop-out_edge g l = record {
  edges : GathersRound l.dcel l.fn.vertex (λ h. h / 2) l.edges.items l.out_edge-iterator.items;
  faces : GathersRound l.dcel l.fn.vertex (face_of l.dcel.shape) l.faces.items l.out_edge-iterator.items;
}
