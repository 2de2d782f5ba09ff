use Rattle.std.proofs.Common.{ℕ, inr, subst}
use Rattle.dcel_planar.proofs.Ends.{edges-trans}
use Rattle.dcel_planar.proofs.Growth.{gains-keeps}
use Rattle.dcel_planar.proofs.Puts.{stays_outside}
use Rattle.dcel_planar.proofs.Whole.{either_outside, opened_has}
use Rattle.dcel_planar.specs.Growing.{IsOpen}
use Rattle.dcel_planar.proofs.planar.PlanarMesh.put_outside.Goals as goal

pub returns-clause-edges : goal.returns-clause-edges
returns-clause-edges g c = edges-trans _ _ _ _ c.in_ok-vertex.ensures.gains.edges c.in_ok-vertex.ensures.edges c.close_hull.ensures.closes.edges

pub returns-clause-lists : goal.returns-clause-lists
returns-clause-lists g c = λ lacking lists. c.close_hull.ensures.closes.lists lacking (c.put_beside.ensures.lists lacking lists)

pub returns-clause-gains : goal.returns-clause-gains
returns-clause-gains g c = gains-keeps _ _ _ c.args.point _ c.in_ok-vertex.ensures.gains c.close_hull.ensures.closes.keeps

pub returns-in_err-close_hull-clause-edges : goal.returns-in_err-close_hull-clause-edges
returns-in_err-close_hull-clause-edges g c = edges-trans _ _ _ _ c.in_ok-vertex.ensures.gains.edges c.in_ok-vertex.ensures.edges c.close_hull.ensures.closes.edges

pub returns-in_err-close_hull-clause-lists : goal.returns-in_err-close_hull-clause-lists
returns-in_err-close_hull-clause-lists g c = λ lacking lists. c.close_hull.ensures.closes.lists lacking (c.put_beside.ensures.lists lacking lists)

pub returns-clause-hull : goal.returns-clause-hull
returns-clause-hull g c =
    opened_has c.close_hull.new.self.dcel c.in_ok-vertex.vertex (c.close_hull.ensures.closes.goes_on.open_still c.in_ok-vertex.vertex c.in_ok-vertex.ensures.open)
    c.in_ok-close_hull.ensures.hull

pub returns-clause-outside : goal.returns-clause-outside
returns-clause-outside g c =
    c.close_hull.ensures.outside (inr (inr (c.in_ok-vertex.ensures.listed, (c.in_ok-vertex.vertex, c.in_ok-vertex.ensures.open))))

pub returns-in_err-close_hull-clause-outside : goal.returns-in_err-close_hull-clause-outside
returns-in_err-close_hull-clause-outside g c =
    c.close_hull.ensures.outside (inr (inr (c.in_ok-vertex.ensures.listed, (c.in_ok-vertex.vertex, c.in_ok-vertex.ensures.open))))

pub returns-in_err-vertex-clause-outside : goal.returns-in_err-vertex-clause-outside
returns-in_err-vertex-clause-outside g c =
    stays_outside c.args.self.now.dcel c.put_beside.new.self.dcel c.args.self.now.due.items c.put_beside.new.self.due.items c.in_err-vertex.ensures.refused.1.mesh
    c.in_err-vertex.ensures.refused.1.due (either_outside c.args.self.now.dcel c.args.self.now.due.items c.requires.hull)

pub returns-clause-circles : goal.returns-clause-circles
returns-clause-circles g c = λ empty.
    let mid = c.put_beside.new.self.dcel in
    let still = subst (λ (w : ℕ). IsOpen mid w) c.in_ok-vertex.ensures.gains.vertex c.in_ok-vertex.ensures.open in
    c.close_hull.ensures.closes.goes_on.circles c.args.self.now.dcel.shape.vertices still (c.in_ok-vertex.ensures.circles empty)
