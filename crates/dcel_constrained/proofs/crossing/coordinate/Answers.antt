use Rattle.dcel_predicates.specs.Wide.{number_of}
use Rattle.dcel_constrained.proofs.Intersected.{coordinate_is}
use Rattle.dcel_constrained.proofs.crossing.coordinate.Goals as goal

pub returns : goal.returns
returns c =
    coordinate_is c.args.from c.args.to c.args.along c.args.weight (number_of c.product-start.result) (number_of c.product-step.result) (number_of c.sum.result) c.requires.from
    c.requires.to c.requires.along c.requires.weight c.product-start.ensures.value c.product-step.ensures.value c.sum.ensures
