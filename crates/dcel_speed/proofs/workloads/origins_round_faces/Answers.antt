use Rattle.std.proofs.Common.{arith}
use Rattle.dcel_speed.proofs.Growing.{face_live}
use Rattle.dcel_speed.proofs.workloads.origins_round_faces.Goals as goal

pub adjacent_edge-requires-clause-live : goal.adjacent_edge-requires-clause-live
adjacent_edge-requires-clause-live g c =
    rw (c.face.ensures.mesh, c.face.ensures.number) (face_live c.args.dcel.now.shape c.requires c.new-face.result (omega arith))
