use Rattle.std.proofs.Common.{◌∙◌, ◌+◌, ◌*◌, ◌^◌, Bool, ap, sym, arith}
use Rattle.std.specs.Float.Ieee.{binary64, of_fields}
use Rattle.std.proofs.lemmas.Float.{not_nan_f64_bits}
use Rattle.dcel_floats.proofs.binary.by_fields.Goals as goal
use Rattle.dcel_floats.proofs.Patterns.{negative_fields, positive_fields}

pub float_from_bits-result : goal.float_from_bits-result
float_from_bits-result c = not_nan_f64_bits (2 ^ 63 + (c.args.exponent * 2 ^ 52 + c.args.digits)) (omega arith)

pub float_from_bits-result-else-is_negative : goal.float_from_bits-result-else-is_negative
float_from_bits-result-else-is_negative c = not_nan_f64_bits (c.args.exponent * 2 ^ 52 + c.args.digits) (omega arith)

pub returns-then-is_negative : goal.returns-then-is_negative
returns-then-is_negative c =
    negative_fields c.args.exponent c.args.digits c.requires.exponent c.requires.digits
    ∙ ap (λ (s : Bool). of_fields binary64 s c.args.exponent c.args.digits) (sym c.if-is_negative.true)

pub returns-else-is_negative : goal.returns-else-is_negative
returns-else-is_negative c =
    positive_fields c.args.exponent c.args.digits c.requires.exponent c.requires.digits
    ∙ ap (λ (s : Bool). of_fields binary64 s c.args.exponent c.args.digits) (sym c.if-is_negative.false)
