use Rattle.std.proofs.Common.{◌≡◌, ◌↔◌, IsTrue, refl, ap, ◌∙◌}
use Rattle.dcel_maps.specs.Shapes.{end_of, origin_of, prev_of}
use Rattle.dcel_maps.specs.Walking.{IsOnFace}
use Rattle.spade_dcel.specs.Handles.{mesh_behind, number_of}
use Rattle.dcel_plane.specs.Plane.{TurnsLeft, point_at}
use Rattle.dcel_planar.proofs.Circled.{left_told}
use Rattle.dcel_planar.proofs.Faces.{goes_from, goes_to, known_as, lies_as, no_corners}
use Rattle.dcel_planar.proofs.planes.goes_left.Goals as goal

pub returns-then-not-is_triangle : goal.returns-then-not-is_triangle
returns-then-not-is_triangle g c = (
  λ yes.
      no_corners c.args.dcel.now c.every_mesh.ensures (point_at c.args.dcel.now) c.args.face
      (λ is. let told = c.is_triangle.ensures.1 is in let no = c.if-not-is_triangle.true in cc),
  λ goes. refl,
)

pub returns : goal.returns
returns g c =
    let m = c.args.dcel.now in
    let at = point_at m in
    let edge = c.adjacent_edge-edge in
    let e = number_of edge.result in
    let behind = edge.ensures.mesh ∙ c.face.ensures.mesh in
    let on : IsOnFace m.shape c.args.face e = lies_as m (mesh_behind c.face.result) (number_of c.face.result) c.args.face e c.face.ensures.mesh c.face.ensures.number edge.ensures.lies in
    let start : c.point_of.result ≡ at (origin_of m.shape e) =
    known_as m (mesh_behind c.from.result) (mesh_behind edge.result) c.point_of.result (number_of c.from.result) (λ s. origin_of s e) c.point_of.ensures
    c.from.ensures.mesh c.from.ensures.number behind in
    let end : c.point_of-2.result ≡ at (end_of m.shape e) =
    known_as m (mesh_behind c.to.result) (mesh_behind edge.result) c.point_of-2.result (number_of c.to.result) (λ s. end_of s e) c.point_of-2.ensures
    c.to.ensures.mesh c.to.ensures.number behind in
    let before : number_of c.prev.result ≡ prev_of m.shape e = c.prev.ensures.number ∙ ap (λ k. prev_of k.shape e) behind in
    let corner : c.point_of-3.result ≡ at (origin_of m.shape (prev_of m.shape e)) =
    known_as m (mesh_behind c.from-2.result) (mesh_behind c.prev.result) c.point_of-3.result (number_of c.from-2.result) (λ s. origin_of s (number_of c.prev.result))
    c.point_of-3.ensures c.from-2.ensures.mesh c.from-2.ensures.number (c.prev.ensures.mesh ∙ behind) ∙ ap (λ v. at (origin_of m.shape v)) before in
    let told : IsTrue c.is_on_left_side.result ↔ TurnsLeft (at (origin_of m.shape e)) (at (end_of m.shape e)) (at (origin_of m.shape (prev_of m.shape e))) =
    left_told c.is_on_left_side.result c.orientation.result start end corner c.is_on_left_side.ensures c.orientation.ensures.left in
    let triangle = c.is_triangle.ensures.0 c.if-not-is_triangle.false in (
      λ yes. goes_from m c.every_mesh.ensures at c.args.face e triangle on.live on.face (told.0 yes),
      λ goes. told.1 (goes_to m c.every_mesh.ensures at c.args.face e triangle on.live on.face goes),
    )
