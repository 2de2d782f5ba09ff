use Rattle.spade_dcel.specs.Handles.{mesh_behind, number_of}
use Rattle.dcel_maps.specs.Shapes.{IsLive}
use Rattle.dcel_speed.proofs.round_vertex.least_and_count.Given as goal

abbrev pub invariant-loop-edge : goal.invariant-loop-edge
invariant-loop-edge g l = IsLive (mesh_behind l.least).shape (number_of l.least)
