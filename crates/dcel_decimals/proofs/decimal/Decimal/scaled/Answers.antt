use Rattle.std.proofs.Common.{◌^◌, ◌≤◌, ◌∙◌, ap, arith, to_z, of_z, w64, ℤ, pos, ◌*ℤ◌, unsigned_abs}
use Rattle.std.specs.Int.{w128}
use Rattle.std.proofs.lemmas.Int.{to_z-of_z, fits_signed_from_abs}
use Rattle.dcel_decimals.proofs.decimal.Decimal.scaled.Goals as goal
use Rattle.dcel_decimals.proofs.Scaled.{not_whole, scaled_up, scaled_beyond}

pub returns-then-scale-self-clause-why : goal.returns-then-scale-self-clause-why
returns-then-scale-self-clause-why c = λ number e. let h = not_whole c.args.self c.args.scale.power number e in omega arith

pub returns-in_default-clause-why : goal.returns-in_default-clause-why
returns-in_default-clause-why c =
    let m = to_z-of_z w128 c.args.self.mantissa (fits_signed_from_abs w128 c.args.self.mantissa (omega arith)) in
    let above = c.in_default.ensures in
    scaled_beyond c.unsigned_abs.result (unsigned_abs c.args.self.mantissa) c.args.self.places c.args.scale.power c.from-more.result (c.unsigned_abs.ensures.value ∙ ap unsigned_abs m) c.from-more.ensures (omega arith) (omega arith)

pub returns-then-size-gt-MOST_SCALED-clause-why : goal.returns-then-size-gt-MOST_SCALED-clause-why
returns-then-size-gt-MOST_SCALED-clause-why c =
    let m = to_z-of_z w128 c.args.self.mantissa (fits_signed_from_abs w128 c.args.self.mantissa (omega arith)) in
    let s = c.in-Some.ensures in
    scaled_beyond c.unsigned_abs.result (unsigned_abs c.args.self.mantissa) c.args.self.places c.args.scale.power c.from-more.result (c.unsigned_abs.ensures.value ∙ ap unsigned_abs m) c.from-more.ensures (omega arith) (omega (arith, s.1))

pub returns-clause-value : goal.returns-clause-value
returns-clause-value c =
    let m = to_z-of_z w128 c.args.self.mantissa (fits_signed_from_abs w128 c.args.self.mantissa (omega arith)) in
    let s = c.in-Some.ensures in
    let small : unsigned_abs c.like.result ≤ 2 ^ 53 = omega (arith, c.like.ensures.size, c.if-size-gt-MOST_SCALED.false) in
    let r = to_z-of_z w128 c.like.result (fits_signed_from_abs w128 c.like.result (omega (arith, small))) in
    let narrow = to_z-of_z w64 c.like.result (fits_signed_from_abs w64 c.like.result (omega (arith, small))) in
    let places = c.args.self.places in
    let power = c.args.scale.power in
    let up = scaled_up c.unsigned_abs.result _ places power c.from-more.result c.unsigned_abs.ensures.value c.from-more.ensures (omega arith) c.in-Some.size s.1 in
    ap (λ (z : ℤ). to_z w64 (of_z w64 z) *ℤ pos (10 ^ places)) r ∙ ap (λ (z : ℤ). z *ℤ pos (10 ^ places)) narrow ∙ c.like.ensures.value (10 ^ places) (10 ^ power) up ∙ ap (λ (z : ℤ). z *ℤ pos (10 ^ power)) m
