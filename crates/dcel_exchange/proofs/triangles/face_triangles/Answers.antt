use Rattle.std.proofs.Common.{length, map, arith}
use Rattle.dcel_exchange.specs.FaceCorners.{corners_round}
use Rattle.dcel_exchange.proofs.FaceLists.{corners_turn, joined_all}
use Rattle.dcel_exchange.proofs.ListedTriangles.{lists_next, lists_stop}
use Rattle.dcel_exchange.proofs.triangles.face_triangles.Goals as goal
use Rattle.dcel_maps.specs.Numbers.{numbers_between}
use Rattle.dcel_maps.specs.Shapes.{face_count}

pub returns-in_default-clause-why : goal.returns-in_default-clause-why
returns-in_default-clause-why g c =
    lists_stop c.args.dcel.now c.every_mesh.ensures c.requires c.loop-corners.triangles.items _ _ _ c.len.result c.loop-corners.invariant c.in-Some.ensures.steps
    c.in_default.ensures (omega (arith, c.len.ensures, c.loop-corners.triangles.ok))

pub loop-corners-preserved : goal.loop-corners-preserved
loop-corners-preserved g c =
    lists_next c.args.dcel.now c.loop-corners.triangles.items c.push.new.self.items _ _ _ c.in-Some-triangle_of.triangle c.loop-corners.invariant
    c.in-Some.ensures.steps c.in-Ok.ensures.items c.in-Some-triangle_of.ensures

pub returns-clause-turns : goal.returns-clause-turns
returns-clause-turns g c =
    corners_turn c.args.dcel.now c.every_mesh.ensures c.loop-corners.triangles.items
    (joined_all c.loop-corners.triangles.items c.loop-corners.corners-iterator
    (map (corners_round c.args.dcel.now) (numbers_between 1 (face_count c.args.dcel.now.shape))) c.loop-corners.invariant.so_far c.in-None.ensures.steps.0)
