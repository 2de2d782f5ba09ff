use Rattle.dcel_constrained.proofs.Intersected.{down_within, rounded_down, rounded_up, up_least, up_within}
use Rattle.dcel_constrained.proofs.crossing.rounded.Goals as goal

pub returns-then-parted-weight-clause-value : goal.returns-then-parted-weight-clause-value
returns-then-parted-weight-clause-value c =
    rounded_down c.args.step c.args.along c.args.weight c.requires.least c.requires.most c.requires.after c.requires.before c.requires.weight c.unsigned_abs-weight.result
    c.divided-parted.result.remainder c.product.result c.abs.result c.divided-parted.result.quotient c.unsigned_abs-weight.ensures.value c.product.ensures.value c.abs.ensures.value
    c.divided-parted.ensures.value c.divided-parted.ensures.least c.if-parted-weight.true

pub returns-then-parted-weight-clause-most : goal.returns-then-parted-weight-clause-most
returns-then-parted-weight-clause-most c =
    down_within c.args.step c.args.along c.args.weight c.requires.least c.requires.most c.requires.after c.requires.before c.requires.weight c.unsigned_abs-weight.result
    c.divided-parted.result.remainder c.product.result c.abs.result c.divided-parted.result.quotient c.unsigned_abs-weight.ensures.value c.product.ensures.value c.abs.ensures.value
    c.divided-parted.ensures.value c.divided-parted.ensures.least

pub returns-else-parted-weight-clause-value : goal.returns-else-parted-weight-clause-value
returns-else-parted-weight-clause-value c =
    rounded_up c.args.step c.args.along c.args.weight c.requires.least c.requires.most c.requires.after c.requires.before c.requires.weight c.unsigned_abs-weight.result
    c.divided-parted.result.remainder c.product.result c.abs.result c.divided-parted.result.quotient c.unsigned_abs-weight.ensures.value c.product.ensures.value c.abs.ensures.value
    c.divided-parted.ensures.value c.divided-parted.ensures.least c.divided-parted.ensures.remainder c.if-parted-weight.false

pub returns-else-parted-weight-clause-least : goal.returns-else-parted-weight-clause-least
returns-else-parted-weight-clause-least c =
    up_least c.args.step c.args.along c.args.weight c.requires.least c.requires.most c.requires.after c.requires.before c.requires.weight c.unsigned_abs-weight.result
    c.divided-parted.result.remainder c.product.result c.abs.result c.divided-parted.result.quotient c.unsigned_abs-weight.ensures.value c.product.ensures.value c.abs.ensures.value
    c.divided-parted.ensures.value c.divided-parted.ensures.least

pub returns-else-parted-weight-clause-most : goal.returns-else-parted-weight-clause-most
returns-else-parted-weight-clause-most c =
    up_within c.args.step c.args.along c.args.weight c.requires.least c.requires.most c.requires.after c.requires.before c.requires.weight c.unsigned_abs-weight.result
    c.divided-parted.result.remainder c.product.result c.abs.result c.divided-parted.result.quotient c.unsigned_abs-weight.ensures.value c.product.ensures.value c.abs.ensures.value
    c.divided-parted.ensures.value c.divided-parted.ensures.least c.divided-parted.ensures.remainder c.if-parted-weight.false
