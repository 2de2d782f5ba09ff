use Rattle.std.proofs.Common.{◌≡◌, ◌<◌, ◌<ℤ◌, ◌∙◌, pos, refl, arith}
use Rattle.dcel_maps.specs.Shapes.{end_of, map_of}
use Rattle.dcel_maps.proofs.maps.Soundness.{rev_live}
use Rattle.dcel_maps.proofs.shapes.Maps.{map-sound}
use Rattle.dcel_plane.specs.Plane.{point_at}
use Rattle.dcel_predicates.specs.Determinants.{squared_distance_of}
use Rattle.dcel_fixed.specs.HalfEdges.{rev}
use Rattle.spade_dcel.specs.Handles.{mesh_behind, number_of}
use Rattle.dcel_delaunay.proofs.Distances.{at_most, distance_read, end_read, nearer_by, not_nearer_by}
use Rattle.dcel_planar.proofs.Searching.{search_continues, search_ends}
use Rattle.dcel_delaunay.proofs.locate.walk.nearer_neighbor.Goals as goal

pub returns-then-squared_distance-own-clause-vertex : goal.returns-then-squared_distance-own-clause-vertex
returns-then-squared_distance-own-clause-vertex g c =
    let m = c.args.dcel.now in
    let k = number_of c.in-Some.edge in
    let came = search_continues (λ h. squared_distance_of (point_at m (end_of m.shape h)) c.args.point <ℤ squared_distance_of (point_at m c.args.vertex) c.args.point) m c.args.vertex _ _ _ _
    c.loop-edge.invariant c.in-Some.ensures.steps.0 in
    let is = c.fix.ensures.value ∙ end_read m (mesh_behind c.to-to.result) (mesh_behind c.in-Some.edge) (number_of c.to-to.result) k came.0 c.to-to.ensures.number in
    let mesh = c.every_mesh.ensures in
    let below : end_of m.shape k < m.shape.vertices = (map-sound mesh.sound).below_vertices (rev k) (rev_live (map_of m.shape) k came.1.starts.live) in
    rw is below

pub returns-then-squared_distance-own-clause-nearer : goal.returns-then-squared_distance-own-clause-nearer
returns-then-squared_distance-own-clause-nearer g c =
    let m = c.args.dcel.now in
    let v = c.args.vertex in
    let q = c.args.point in
    let k = number_of c.in-Some.edge in
    let came = search_continues (λ h. squared_distance_of (point_at m (end_of m.shape h)) q <ℤ squared_distance_of (point_at m v) q) m v _ _ _ _ c.loop-edge.invariant c.in-Some.ensures.steps.0 in
    let is = c.fix.ensures.value ∙ end_read m (mesh_behind c.to-to.result) (mesh_behind c.in-Some.edge) (number_of c.to-to.result) k came.0 c.to-to.ensures.number in
    let first = distance_read m (mesh_behind c.to-to.result) (mesh_behind c.in-Some.edge) (number_of c.to-to.result) k came.0 c.to-to.ensures.number
    c.squared_distance.result q c.to-to.ensures.mesh c.squared_distance.ensures in
    let own : pos c.squared_distance-own.result ≡ squared_distance_of (point_at m v) q =
    rw (c.squared_distance-own.ensures, c.vertex-from.ensures.mesh, c.vertex-from.ensures.number) refl in
    rw is (nearer_by c.squared_distance.result c.squared_distance-own.result first own (omega (arith, c.if-squared_distance-own.true)))

pub loop-edge-preserved : goal.loop-edge-preserved
loop-edge-preserved g c =
    let m = c.args.dcel.now in
    let v = c.args.vertex in
    let q = c.args.point in
    let k = number_of c.in-Some.edge in
    let came = search_continues (λ h. squared_distance_of (point_at m (end_of m.shape h)) q <ℤ squared_distance_of (point_at m v) q) m v _ _ _ _ c.loop-edge.invariant c.in-Some.ensures.steps.0 in
    let first = distance_read m (mesh_behind c.to-to.result) (mesh_behind c.in-Some.edge) (number_of c.to-to.result) k came.0 c.to-to.ensures.number
    c.squared_distance.result q c.to-to.ensures.mesh c.squared_distance.ensures in
    let own : pos c.squared_distance-own.result ≡ squared_distance_of (point_at m v) q =
    rw (c.squared_distance-own.ensures, c.vertex-from.ensures.mesh, c.vertex-from.ensures.number) refl in
    came.1.goes_on (not_nearer_by c.squared_distance.result c.squared_distance-own.result first own (omega (arith, c.if-squared_distance-own.false)))

pub returns-clause-none : goal.returns-clause-none
returns-clause-none g c = λ h live starts.
    let m = c.args.dcel.now in
    let v = c.args.vertex in
    let q = c.args.point in
    at_most (squared_distance_of (point_at m (end_of m.shape h)) q) (squared_distance_of (point_at m v) q)
    (search_ends (λ h. squared_distance_of (point_at m (end_of m.shape h)) q <ℤ squared_distance_of (point_at m v) q) m v _ c.loop-edge.invariant c.in_default.ensures.steps.0.0 h record { live = live; start = starts })
