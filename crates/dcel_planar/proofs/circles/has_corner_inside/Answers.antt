use Rattle.dcel_planar.proofs.Circled.{circle_moves}
use Rattle.dcel_planar.proofs.circles.has_corner_inside.Goals as goal

pub returns : goal.returns
returns g c =
    let at = c.points_at-points.ensures in circle_moves c.in_circle.result at.from at.to at.near at.far c.in_circle.ensures
