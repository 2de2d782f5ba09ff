use Rattle.std.proofs.Common.{◌∙◌, subst, sym}
use Rattle.delaunay.specs.Placed.{IsOnFinest}
use Rattle.delaunay.specs.declared.unit.Unit.{Unit}
use Rattle.delaunay.proofs.Written.{any_ok}
use Rattle.delaunay.proofs.task.Task.take.Goals as goal

pub returns-clause-grid : goal.returns-clause-grid
returns-clause-grid g c = any_ok c.take_places.result _ (λ _ adds asks.
    subst (λ (unit : Unit). IsOnFinest unit c.args.coordinates.now.all.items c.args.asked.now.all.items)
    (sym (c.take_places.ensures.unit ∙ c.read_numbers.ensures.unit)) (c.in_ok-take_points.ensures.grid adds asks))
