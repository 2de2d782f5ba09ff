use Rattle.std.proofs.Common.{◌≡◌, ◌∙◌, Some, ap, refl, rules}
use Rattle.dcel_predicates.proofs.Points.{point_same}
use Rattle.dcel_planar.proofs.mesh.stands_at.Goals as goal

pub returns : goal.returns
returns g c =
    let own = c.data-own.result.now in
    let x : own.x ≡ c.args.point.x = search rules in
    let y : own.y ≡ c.args.point.y = search rules in
    (λ _. c.data-own.ensures ∙ ap Some (point_same own c.args.point x y), λ _. refl)
