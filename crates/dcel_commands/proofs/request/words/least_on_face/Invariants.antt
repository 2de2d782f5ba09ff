use Rattle.std.proofs.Common.{◌≡◌}
use Rattle.spade_dcel.specs.Handles.{mesh_behind, number_of}
use Rattle.dcel_commands.proofs.FaceWalks.{IsLeastSoFar, left_round}
use Rattle.dcel_commands.proofs.request.words.least_on_face.Given as goal

abbrev pub invariant-loop-anchor : goal.invariant-loop-anchor
invariant-loop-anchor g l = record {
  mesh : mesh_behind l.edge ≡ mesh_behind l.anchor;
  least_mesh : mesh_behind l.least ≡ mesh_behind l.anchor;
  so_far : IsLeastSoFar (mesh_behind l.anchor).shape (number_of l.anchor) (number_of l.edge) (number_of l.least);
}

abbrev pub decreases-loop-anchor : goal.decreases-loop-anchor
decreases-loop-anchor g l = left_round (mesh_behind l.anchor).shape (number_of l.anchor) (number_of l.edge)
