use Rattle.std.proofs.Common.{◌≡◌, refl}
use Rattle.dcel_maps.specs.Shapes.{end_of, next_of, origin_of}
use Rattle.dcel_plane.specs.Plane.{point_at}
use Rattle.spade_dcel.specs.Handles.{mesh_behind, number_of}
use Rattle.dcel_planar.proofs.Circled.{left_told}
use Rattle.dcel_planar.proofs.rounds.bends_left.Goals as goal

pub returns : goal.returns
returns g c =
    let m = mesh_behind c.args.half in
    let h = number_of c.args.half in
    let start : c.point_of.result ≡ point_at m (origin_of m.shape h) = rw (c.point_of.ensures, c.from.ensures.mesh, c.from.ensures.number) refl in
    let end : c.point_of-2.result ≡ point_at m (end_of m.shape h) = rw (c.point_of-2.ensures, c.to.ensures.mesh, c.to.ensures.number) refl in
    let far : c.point_of-3.result ≡ point_at m (end_of m.shape (next_of m.shape h)) =
    rw (c.point_of-3.ensures, c.to-2.ensures.mesh, c.to-2.ensures.number, c.next.ensures.mesh, c.next.ensures.number) refl in
    left_told c.is_on_left_side.result c.orientation.result start end far c.is_on_left_side.ensures c.orientation.ensures.left
