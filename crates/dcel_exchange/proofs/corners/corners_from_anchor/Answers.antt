use Rattle.std.proofs.Common.{◌∙◌, map, ap}
use Rattle.dcel_exchange.proofs.FaceLists.{corners_given}
use Rattle.dcel_maps.specs.Shapes.{origin_of}
use Rattle.spade_dcel.specs.Faces.{face_edges_of}
use Rattle.spade_dcel.specs.Handles.{mesh_behind, number_of}
use Rattle.dcel_exchange.proofs.corners.corners_from_anchor.Goals as goal

pub returns : goal.returns
returns g c =
    ap (map (λ edge. origin_of edge.0.shape edge.1)) c.directed_edges.ensures.items
    ∙ corners_given (mesh_behind c.args.face) (face_edges_of (mesh_behind c.args.face) (number_of c.args.face))
