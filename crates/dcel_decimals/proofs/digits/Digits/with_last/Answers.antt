use Rattle.std.proofs.Common.{◌≡◌, ℕ, ◌+◌, ◌*◌, ◌^◌, ap, ◌∙◌, arith, refl}
use Rattle.dcel_decimals.proofs.digits.Digits.with_last.Goals as goal
use Rattle.dcel_decimals.proofs.Powers.{one_more}

-- what is raised is ten times the number, where z counts its zeros
raised : (s z from : ℕ) → from ≡ z → s * 10 ^ (from + 1) ≡ (s * 10 ^ z) * 10
raised s z from e = ap (λ (k : ℕ). s * 10 ^ (k + 1)) e ∙ one_more s z

pub returns-in_default-clause-number : goal.returns-in_default-clause-number
returns-in_default-clause-number c =
    let e = raised c.args.self.significant c.args.self.zeros c.from.result c.from.ensures in
    let f = c.in_default.ensures in
    omega arith

pub returns-then-significant-ge-LIMIT-clause-number : goal.returns-then-significant-ge-LIMIT-clause-number
returns-then-significant-ge-LIMIT-clause-number c =
    let e = raised c.args.self.significant c.args.self.zeros c.from.result c.from.ensures in
    let f = c.in-Some.ensures in
    omega arith

pub invariant_of-result : goal.invariant_of-result
invariant_of-result c =
    let e = raised c.args.self.significant c.args.self.zeros c.from.result c.from.ensures in
    let f = c.in-Some.ensures in
    record {
      in_range = omega arith;
      last = λ z. absurd (omega arith);
      nothing = λ z. refl;
    }

pub returns-clause-number : goal.returns-clause-number
returns-clause-number c =
    let e = raised c.args.self.significant c.args.self.zeros c.from.result c.from.ensures in
    let f = c.in-Some.ensures in
    omega arith
