use Rattle.std.proofs.Common.{◌≡◌, ℕ, pos, subst, arith}
use Rattle.dcel_plane.specs.Plane.{point_at}
use Rattle.dcel_predicates.specs.Determinants.{squared_distance_of}
use Rattle.mesh_page.proofs.Least.{least_next, least_still}
use Rattle.mesh_page.proofs.constrained.listing.nearest_of_all.Goals.{then-other-distance, else-other-distance}
use Rattle.mesh_page.proofs.constrained.listing.nearest_of_all.Goals as goal

pub loop-number-preserved : goal.loop-number-preserved
loop-number-preserved g c =
    let m = c.args.mesh.now in
    let q = c.args.point in
    let k = c.loop-number.number in
    let far = c.distance_of-other.result in
    let known = c.loop-number.invariant in
    let test = c.loop-number-test.true in
    let count = c.num_vertices-count.ensures.count in
    let at_next : pos far ≡ squared_distance_of (point_at m k) q = subst (λ (v : ℕ). pos far ≡ squared_distance_of (point_at m v) q) c.new-vertex.ensures c.distance_of-other.ensures in
    elim c.if-other-distance.branch [
      | then-other-distance w ↦ record {
        up_to = omega (arith, test);
        vertex = rw (w.least-is, c.new-vertex.ensures) (omega (arith, test, count));
        distance = rw (w.least-is, w.distance-is) c.distance_of-other.ensures;
        nearest =
            rw (w.least-is, c.new-vertex.ensures)
            (least_next (λ v. squared_distance_of (point_at m v) q) k c.loop-number.least c.loop-number.distance far known.nearest known.distance at_next
            (omega (arith, w.if-other-distance.true)));
      }
      | else-other-distance w ↦ record {
        up_to = omega (arith, test);
        vertex = rw w.least-is known.vertex;
        distance = rw (w.least-is, w.distance-is) known.distance;
        nearest =
            rw w.least-is
            (least_still (λ v. squared_distance_of (point_at m v) q) k c.loop-number.least c.loop-number.distance far known.nearest known.distance at_next
            (omega (arith, w.if-other-distance.false)));
      }
    ]
