use Rattle.std.proofs.lemmas.Bool.{false≢true}
use Rattle.dcel_plane.specs.Plane.{point_at}
use Rattle.dcel_delaunay.proofs.Thinned.{can_turn_from, hull_as, hull_stays, left_as}
use Rattle.dcel_delaunay.proofs.remove.flips.can_turn.Goals as goal

pub returns-then-is_part_of_convex_hull : goal.returns-then-is_part_of_convex_hull
returns-then-is_part_of_convex_hull g c =
    let m = c.args.dcel.now in
    let u = c.args.edge in
    let told =
    hull_as c.is_part_of_convex_hull.result m c.undirected_edge.result.dcel.now c.as_directed-half.result.dcel.now u c.undirected_edge.result.number
    c.as_directed-half.result.number c.undirected_edge.ensures.mesh c.undirected_edge.ensures.number c.as_directed-half.ensures.mesh c.as_directed-half.ensures.number
    c.is_part_of_convex_hull.ensures in (
      λ no. absurd (false≢true no),
      λ turn. absurd (hull_stays (point_at m) m.shape u (told.0 c.if-is_part_of_convex_hull.true) turn),
    )

pub returns-then-not-turns_left : goal.returns-then-not-turns_left
returns-then-not-turns_left g c =
    let at = c.points_at-points.ensures in
    let first = left_as c.turns_left.result at.near at.far at.to c.turns_left.ensures in
    (λ no. absurd (false≢true no), λ turn. (let yes = first.1 turn.first in let no = c.if-not-turns_left.true in cc))

pub returns : goal.returns
returns g c =
    let m = c.args.dcel.now in
    let u = c.args.edge in
    let at = c.points_at-points.ensures in
    let first = left_as c.turns_left.result at.near at.far at.to c.turns_left.ensures in
    let second = left_as c.turns_left-2.result at.far at.near at.from c.turns_left-2.ensures in
    let hull =
    hull_as c.is_part_of_convex_hull.result m c.undirected_edge.result.dcel.now c.as_directed-half.result.dcel.now u c.undirected_edge.result.number
    c.as_directed-half.result.number c.undirected_edge.ensures.mesh c.undirected_edge.ensures.number c.as_directed-half.ensures.mesh c.as_directed-half.ensures.number
    c.is_part_of_convex_hull.ensures in (
      λ yes.
          can_turn_from m c.every_mesh.ensures c.requires.sound.triangles u c.requires.live
          (λ on. (let is = hull.1 on in let no = c.if-is_part_of_convex_hull.false in cc))
          (first.0 c.if-not-turns_left.false) (second.0 yes),
      λ turn. second.1 turn.second,
    )
