use Rattle.std.proofs.Common.{◌*◌, ◌^◌, pos, int_lt, to_z, of_z, Bool, sym, ap, ◌∙◌, arith}
use Rattle.std.specs.Int.{w128}
use Rattle.std.proofs.lemmas.Int.{fits_signed_from_abs, to_z-of_z}
use Rattle.dcel_floats.specs.Floats.{signed}
use Rattle.dcel_floats.proofs.Roundings.{negative_held, positive_held, steps_are}
use Rattle.dcel_decimals.proofs.grid.Grid.snap.Goals as goal
use Rattle.dcel_decimals.proofs.Gridding.{snaps}

pub returns-then-decimal-lt0 : goal.returns-then-decimal-lt0
returns-then-decimal-lt0 c =
    let d = c.args.decimal in
    let k = c.args.self.halvings in
    let held = to_z w128 (of_z w128 d.mantissa) in
    let negative = int_lt held (pos 0) in
    let size = c.unsigned_abs-size in
    let r = c.rounded-rounded in
    let m = to_z-of_z w128 d.mantissa (fits_signed_from_abs w128 d.mantissa (omega (arith, d.few_digits))) in
    snaps k d _ negative size.result r.result.steps
    (steps_are held d.mantissa size.result (2 ^ k) m size.ensures.value)
    (ap (λ (b : Bool). signed b r.result.steps) c.if-decimal-lt0.true ∙ sym (negative_held r.result.steps r.result.steps_in_range))
    (r.ensures.value (size.result * 2 ^ k) (10 ^ d.places) c.in-Some.ensures.floor)
    (r.ensures.shift (size.result * 2 ^ k) (10 ^ d.places) c.in-Some.ensures.floor)

pub returns : goal.returns
returns c =
    let d = c.args.decimal in
    let k = c.args.self.halvings in
    let held = to_z w128 (of_z w128 d.mantissa) in
    let negative = int_lt held (pos 0) in
    let size = c.unsigned_abs-size in
    let r = c.rounded-rounded in
    let m = to_z-of_z w128 d.mantissa (fits_signed_from_abs w128 d.mantissa (omega (arith, d.few_digits))) in
    snaps k d _ negative size.result r.result.steps
    (steps_are held d.mantissa size.result (2 ^ k) m size.ensures.value)
    (ap (λ (b : Bool). signed b r.result.steps) c.if-decimal-lt0.false ∙ sym (positive_held r.result.steps r.result.steps_in_range))
    (r.ensures.value (size.result * 2 ^ k) (10 ^ d.places) c.in-Some.ensures.floor)
    (r.ensures.shift (size.result * 2 ^ k) (10 ^ d.places) c.in-Some.ensures.floor)
