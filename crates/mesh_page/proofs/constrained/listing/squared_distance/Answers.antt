use Rattle.std.proofs.Common.{◌≡◌, ◌+◌, ◌*◌, pos, subst, arith}
use Rattle.dcel_predicates.specs.declared.point.Point.{Point}
use Rattle.dcel_predicates.specs.Determinants.{squared_distance_of}
use Rattle.dcel_delaunay.proofs.Distances.{distance_is, distance_within, held_x, held_y}
use Rattle.mesh_page.proofs.constrained.listing.squared_distance.Goals as goal

pub overflow_add-result : goal.overflow_add-result
overflow_add-result g c =
    let p = c.point_of-at.result in
    let q = c.args.point in
    rw (c.abs_diff-x.ensures, c.abs_diff-y.ensures, held_x p, held_x q, held_y p, held_y q) (let h = distance_within p q in omega (arith, h))

pub returns : goal.returns
returns g c =
    let p = c.point_of-at.result in
    let q = c.args.point in
    subst (λ (a : Point). pos (c.abs_diff-x.result * c.abs_diff-x.result + c.abs_diff-y.result * c.abs_diff-y.result) ≡ squared_distance_of a q) c.point_of-at.ensures
    (rw (c.abs_diff-x.ensures, c.abs_diff-y.ensures, held_x p, held_x q, held_y p, held_y q) (distance_is p q))
