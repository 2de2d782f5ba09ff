use Rattle.std.proofs.Common.{map}
use Rattle.dcel_exchange.proofs.FaceLists.{corners_turn, joined_all}
use Rattle.dcel_exchange.specs.Corners.{corners_of}
use Rattle.dcel_exchange.specs.FaceCorners.{corners_round}
use Rattle.dcel_maps.specs.Numbers.{numbers_between}
use Rattle.dcel_maps.specs.Shapes.{face_count}
use Rattle.dcel_exchange.proofs.corners.face_lists.Goals as goal

pub returns-clause-turns : goal.returns-clause-turns
returns-clause-turns g c =
    corners_turn c.args.dcel.now c.every_mesh.ensures (corners_of c.loop-corners.lists.items)
    (joined_all (corners_of c.loop-corners.lists.items) c.loop-corners.corners-iterator
    (map (corners_round c.args.dcel.now) (numbers_between 1 (face_count c.args.dcel.now.shape))) c.loop-corners.invariant c.in-None.ensures.steps.0)
