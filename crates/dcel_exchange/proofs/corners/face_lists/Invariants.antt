use Rattle.std.proofs.Common.{◌≡◌, ◌++◌, map}
use Rattle.dcel_exchange.specs.Corners.{corners_of}
use Rattle.dcel_exchange.specs.FaceCorners.{corners_round}
use Rattle.dcel_maps.specs.Numbers.{numbers_between}
use Rattle.dcel_maps.specs.Shapes.{face_count}
use Rattle.dcel_exchange.proofs.corners.face_lists.Given as goal

abbrev pub invariant-loop-corners : goal.invariant-loop-corners
invariant-loop-corners g l =
    corners_of l.lists.items ++ l.corners-iterator ≡ map (corners_round l.dcel) (numbers_between 1 (face_count l.dcel.shape))
