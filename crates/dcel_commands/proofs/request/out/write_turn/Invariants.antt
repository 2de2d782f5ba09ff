use Rattle.spade_dcel.specs.Handles.{mesh_behind, number_of}
use Rattle.dcel_maps.specs.Walking.{ccw_of, walk_of}
use Rattle.dcel_text.specs.Output.{Writes}
use Rattle.dcel_text.specs.Texts.{listed}
use Rattle.dcel_commands.proofs.OutEdges.{ListedSoFar}
use Rattle.dcel_commands.proofs.request.out.write_turn.Given as goal

abbrev pub invariant-loop-edge : goal.invariant-loop-edge
invariant-loop-edge g l =
    let mesh = mesh_behind l.fn.first in
    (so_far : ListedSoFar mesh l.edge-iterator.items (walk_of mesh.shape (ccw_of mesh.shape) (number_of l.fn.first)))
    × Writes g.K.LineSink.has_failed g.K.LineSink.contents l.fn.out l.out (listed so_far.passed)
