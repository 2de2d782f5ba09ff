use Rattle.std.proofs.Common.{◌≡◌, ◌*◌, ◌^◌, ◌-◌, ◌<◌, ◌≤◌, ℕ, Option, Some, None, MatchOption, subst, sym, ap, ◌∙◌}
use lib.Pow.{pow_pos}
use Rattle.dcel_floats.specs.Binaries.{size_of}
use Rattle.dcel_floats.specs.Binaries.{IsWithin}
use Rattle.dcel_floats.specs.Rounding.{IsRounded}
use Rattle.dcel_floats.specs.declared.binary.Binary.{Binary}
use Rattle.dcel_floats.proofs.grid.Grid.steps_of.Goals as goal
use Rattle.dcel_floats.proofs.Roundings.{exact, rounded_times}
use Rattle.dcel_floats.proofs.Steps.{beyond, lifted, spread}

pub returns-then-binary-self-clause-value : goal.returns-then-binary-self-clause-value
returns-then-binary-self-clause-value c =
    let k = c.args.self.power in
    let p = c.args.binary.power in
    let step : 2 ^ (k - p) * 2 ^ p ≡ 2 ^ k = sym (spread p k c.if-binary-self.true) in
    subst (λ (n : ℕ). IsRounded n (size_of c.args.binary) c.shifted_down.result) step
    (rounded_times (2 ^ (k - p)) c.args.binary.mantissa c.shifted_down.result (2 ^ p) (pow_pos p) c.shifted_down.ensures.value)

lifts : (k : ℕ) (b : Binary) (r : Option ℕ) → k ≤ b.power → MatchOption r (2 ^ 53 < b.mantissa * 2 ^ (b.power - k)) (λ size. (size ≤ 2 ^ 53) × (size ≡ b.mantissa * 2 ^ (b.power - k)))
    → MatchOption r (¬ (IsWithin k b)) (IsRounded (2 ^ k) (size_of b))
lifts k b (Some size) h found = exact (2 ^ k) (size_of b) size (pow_pos k) (ap (λ (n : ℕ). n * 2 ^ k) found.1 ∙ lifted b.mantissa b.power k h)
lifts k b None h found = beyond b.mantissa b.power k h found

pub returns-clause-value : goal.returns-clause-value
returns-clause-value c = lifts c.args.self.power c.args.binary c.shifted_up.result c.if-binary-self.false c.shifted_up.ensures
