use Rattle.std.proofs.Common.{◌≡◌, ℕ, ◌+◌, ◌*◌, ◌^◌, ℤ, pos, int_lt, w64, to_z, of_z, rules, arith, ap, subst, sym, ◌∙◌}
use Rattle.std.proofs.lemmas.Int.{to_z-of_z}
use Rattle.dcel_floats.specs.Floats.{IsUnits, signed}
use Rattle.dcel_floats.proofs.grid.Grid.back.Goals as goal
use Rattle.dcel_floats.proofs.Roundings.{steps_are}
use Rattle.dcel_floats.proofs.Steps.{half_above}

pub returns-then-size-lt-MOST_STEPS : goal.returns-then-size-lt-MOST_STEPS
returns-then-size-lt-MOST_STEPS c =
    let held = to_z w64 (of_z w64 c.args.steps) in
    let size = c.unsigned_abs-size in
    subst (λ (v : ℤ). IsUnits c.float.result v)
    (steps_are held c.args.steps size.result (2 ^ c.args.self.power) (to_z-of_z w64 c.args.steps (search rules)) size.ensures.value)
    c.float.ensures

pub returns : goal.returns
returns c =
    let held = to_z w64 (of_z w64 c.args.steps) in
    let size = c.unsigned_abs-size in
    let k = c.args.self.power in
    let most : size.result ≡ 2 ^ 53 = omega (arith, c.if-size-lt-MOST_STEPS.false, c.if-size-gt-MOST_STEPS.false) in
    let half : 2 ^ 52 * 2 ^ (k + 1) ≡ size.result * 2 ^ k = half_above k ∙ ap (λ (n : ℕ). n * 2 ^ k) (sym most) in
    subst (λ (v : ℤ). IsUnits c.float-2.result v)
    (ap (signed (int_lt held (pos 0))) half ∙ steps_are held c.args.steps size.result (2 ^ k) (to_z-of_z w64 c.args.steps (search rules)) size.ensures.value)
    c.float-2.ensures
