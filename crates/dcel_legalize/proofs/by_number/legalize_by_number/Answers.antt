use Rattle.std.proofs.Common.{rules}
use Rattle.dcel_legalize.specs.ByNumber.{has_lesser_corner}
use Rattle.dcel_legalize.proofs.by_number.legalize_by_number.Goals as goal

pub returns-clause-run : goal.returns-clause-run
returns-clause-run g c = c.legalize_edges.ensures.run has_lesser_corner (λ vs r are says. search rules)

pub returns-clause-step : goal.returns-clause-step
returns-clause-step g c =
    let legalized = returns-clause-run g c in
    record { turned = legalized.turned; rule = legalized.rule; number = legalized.number; edit = legalized.mesh }
