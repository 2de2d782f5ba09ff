use Rattle.std.proofs.lemmas.Bool.{false≢true}
use Rattle.dcel_plane.specs.Plane.{point_at}
use Rattle.dcel_plane.proofs.edits.Flipped.{circled_can_flip}
use Rattle.dcel_planar.proofs.Circled.{inner_from, not_inner}
use Rattle.dcel_planar.proofs.circles.is_circled.Goals as goal

pub returns-then-not-can_flip : goal.returns-then-not-can_flip
returns-then-not-can_flip g c = (
  λ no. absurd (false≢true no),
  λ both.
      let yes = c.can_flip.ensures.1 (circled_can_flip c.args.dcel.now c.every_mesh.ensures c.args.edge (point_at c.args.dcel.now) both.0 both.1) in
      let no = c.if-not-can_flip.true in
      cc,
)

pub returns-then-is_on_hull : goal.returns-then-is_on_hull
returns-then-is_on_hull g c = (
  λ no. absurd (false≢true no),
  λ both. absurd (not_inner c.args.dcel.now.shape c.args.edge (c.is_on_hull.ensures.0 c.if-is_on_hull.true) both.0),
)

pub returns : goal.returns
returns g c = (
  λ yes. (
    inner_from c.args.dcel.now.shape c.args.edge (c.can_flip.ensures.0 c.if-not-can_flip.false)
        (λ hull. let is = c.is_on_hull.ensures.1 hull in let no = c.if-is_on_hull.false in cc),
    c.has_corner_inside.ensures.0 yes,
  ),
  λ both. c.has_corner_inside.ensures.1 both.1,
)
