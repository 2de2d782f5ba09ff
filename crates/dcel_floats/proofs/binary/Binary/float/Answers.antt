use Rattle.std.proofs.Common.{◌≡◌, ◌+◌, ◌-◌, ◌*◌, ◌^◌, ◌≤◌, ◌<◌, ℕ, suc, inl, inr, ◌⊎◌, sym, ap, ◌∙◌, arith}
use Rattle.std.specs.Float.Ieee.{binary64, of_fields}
use Rattle.dcel_floats.proofs.binary.Binary.float.Goals as goal
use Rattle.dcel_floats.proofs.Fitting.{units_by}
use Rattle.dcel_floats.proofs.Patterns.{high_fields, low_fields}

none_left : (p m : ℕ) → (p ≡ 0) ⊎ (2 ^ 52 ≤ m) → m < 2 ^ 52 → p ≡ 0
none_left p m (inl low) small = low
none_left p m (inr large) small = absurd (omega (arith, large))

pub returns-then-normal-lt-HIDDEN : goal.returns-then-normal-lt-HIDDEN
returns-then-normal-lt-HIDDEN c =
    let b = c.normal-normal in
    units_by c.by_fields.result c.args.self
    (low_fields c.by_fields.result b.result.is_negative b.result.mantissa c.args.self c.by_fields.ensures (sym b.ensures.sign)
    (sym b.ensures.size ∙ ap (λ (p : ℕ). b.result.mantissa * 2 ^ p) (none_left b.result.power b.result.mantissa b.ensures.least c.if-normal-lt-HIDDEN.true)))

pub returns : goal.returns
returns c =
    let b = c.normal-normal in
    let next : b.result.power + 1 ≡ suc b.result.power = omega arith in
    let whole : b.result.mantissa ≡ 2 ^ 52 + (b.result.mantissa - 2 ^ 52) = omega (arith, c.if-normal-lt-HIDDEN.false) in
    units_by c.by_fields-2.result c.args.self
    (high_fields c.by_fields-2.result b.result.is_negative b.result.power (b.result.mantissa - 2 ^ 52) c.args.self b.result.power_in_range
    (c.by_fields-2.ensures ∙ ap (λ (k : ℕ). of_fields binary64 b.result.is_negative k (b.result.mantissa - 2 ^ 52)) next)
    (sym b.ensures.sign)
    (sym b.ensures.size ∙ ap (λ (m : ℕ). m * 2 ^ b.result.power) whole))
