use Rattle.std.proofs.Common.{◌≡◌, ◌*◌, ◌^◌, ◌≤◌, ◌-◌, ℕ, subst, sym, ap, ◌∙◌}
use Rattle.dcel_floats.specs.Binaries.{size_of}
use Rattle.dcel_floats.proofs.binary.Binary.finest.Goals as goal
use Rattle.dcel_floats.proofs.Steps.{finest_else, finest_of_half, within_less, within_own}

pub returns-then-normal-gt0-clause-within : goal.returns-then-normal-gt0-clause-within
returns-then-normal-gt0-clause-within c =
    let b = c.normal-normal in
    let at : 2 ^ 52 * 2 ^ b.result.power ≡ size_of c.args.self = ap (λ (n : ℕ). n * 2 ^ b.result.power) (sym c.if-normal-eq-HIDDEN.true) ∙ b.ensures.size in
    subst (λ (n : ℕ). n ≤ 2 ^ 53 * 2 ^ (b.result.power - 1)) at (within_less b.result.power c.if-normal-gt0.true)

pub returns-else-normal-eq-HIDDEN-clause-within : goal.returns-else-normal-eq-HIDDEN-clause-within
returns-else-normal-eq-HIDDEN-clause-within c =
    let b = c.normal-normal in
    subst (λ (n : ℕ). n ≤ 2 ^ 53 * 2 ^ b.result.power) b.ensures.size (within_own b.result.mantissa b.result.power b.result.mantissa_in_range)

pub returns-then-normal-gt0-clause-finest : goal.returns-then-normal-gt0-clause-finest
returns-then-normal-gt0-clause-finest c = λ power within.
    let b = c.normal-normal in
    let at : size_of c.args.self ≡ 2 ^ 52 * 2 ^ b.result.power = sym b.ensures.size ∙ ap (λ (n : ℕ). n * 2 ^ b.result.power) c.if-normal-eq-HIDDEN.true in
    finest_of_half b.result.power power c.if-normal-gt0.true (subst (λ (n : ℕ). n ≤ 2 ^ 53 * 2 ^ power) at within)

pub returns-else-normal-eq-HIDDEN-clause-finest : goal.returns-else-normal-eq-HIDDEN-clause-finest
returns-else-normal-eq-HIDDEN-clause-finest c = λ power within.
    let b = c.normal-normal in
    finest_else b.result.mantissa b.result.power power c.else-normal-eq-HIDDEN.either b.ensures.least (subst (λ (n : ℕ). n ≤ 2 ^ 53 * 2 ^ power) (sym b.ensures.size) within)
