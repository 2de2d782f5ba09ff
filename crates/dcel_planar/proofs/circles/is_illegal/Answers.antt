use Rattle.std.proofs.lemmas.Bool.{false≢true}
use Rattle.dcel_planar.proofs.Circled.{circle_moves, inner_between, not_inner, turns_at, turns_moves}
use Rattle.dcel_planar.proofs.circles.is_illegal.Goals as goal

pub returns-then-is_on_hull : goal.returns-then-is_on_hull
returns-then-is_on_hull g c = (
  λ no. absurd (false≢true no),
  λ both. absurd (not_inner c.args.dcel.now.shape c.args.edge (c.is_on_hull.ensures.0 c.if-is_on_hull.true) both.0),
)

pub in_circle_across-requires : goal.in_circle_across-requires
in_circle_across-requires g c =
    let at = c.points_at-points.ensures in
    turns_moves at.from at.to at.near
    (turns_at c.args.dcel.now c.every_mesh.ensures c.args.edge c.requires.plane
    (inner_between c.args.dcel.now.shape c.args.edge c.requires.sides (λ hull. let is = c.is_on_hull.ensures.1 hull in let no = c.if-is_on_hull.false in cc)))

pub returns : goal.returns
returns g c =
    let at = c.points_at-points.ensures in
    let told = circle_moves c.in_circle_across.result at.from at.to at.near at.far c.in_circle_across.ensures in (
      λ yes. (
        inner_between c.args.dcel.now.shape c.args.edge c.requires.sides (λ hull. let is = c.is_on_hull.ensures.1 hull in let no = c.if-is_on_hull.false in cc),
        told.0 yes,
      ),
      λ both. told.1 both.1,
    )
