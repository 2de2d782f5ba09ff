use Rattle.std.proofs.Common.{◌≡◌, ℕ, ◌+◌, ◌*◌, ◌^◌, ◌<◌, ◌∙◌, ap, ◌-◌, arith}
use Rattle.dcel_decimals.proofs.floor.doubled.Goals as goal
use Rattle.dcel_decimals.proofs.Floors.{above, below, halved}

pub loop-left-preserved : goal.loop-left-preserved
loop-left-preserved c =
    let q = c.loop-left.quotient in
    let left = c.loop-left.left in record {
      rest = c.twice-quotient.ensures.rest;
      value = ap (λ (n : ℕ). n * 2 ^ (left - 1)) c.twice-quotient.ensures.value ∙ halved (q.whole * c.args.divisor + q.rest) left c.loop-left-test.true ∙ c.loop-left.invariant.value;
    }

beyond : (c : goal.Then-quotient-limit) → c.args.limit * c.args.divisor < c.args.size * 2 ^ c.args.doublings
beyond c =
    let q = c.loop-left.quotient in
    above q.whole c.args.divisor q.rest c.loop-left.left (c.args.size * 2 ^ c.args.doublings) c.args.limit c.loop-left.invariant.value c.requires.some c.if-quotient-limit.true

pub returns-then-quotient-limit-clause-range : goal.returns-then-quotient-limit-clause-range
returns-then-quotient-limit-clause-range c = beyond c

pub returns-then-quotient-limit-clause-value : goal.returns-then-quotient-limit-clause-value
returns-then-quotient-limit-clause-value c = beyond c

pub returns-then-quotient-limit-clause-rest : goal.returns-then-quotient-limit-clause-rest
returns-then-quotient-limit-clause-rest c = beyond c

pub returns-clause-range : goal.returns-clause-range
returns-clause-range c =
    let q = c.loop-left.quotient in
    let d = c.args.divisor in
    let none : 2 ^ c.loop-left.left ≡ 2 ^ 0 = ap (λ (k : ℕ). 2 ^ k) (let e : c.loop-left.left ≡ 0 = omega (arith, c.loop-left-test.false) in e) in
    let is : (q.whole * d + q.rest) * 2 ^ c.loop-left.left ≡ (q.whole * d + q.rest) * 1 = ap (λ (k : ℕ). (q.whole * d + q.rest) * k) none in
    below q.whole d q.rest (c.args.size * 2 ^ c.args.doublings) c.args.limit (omega (arith, is, c.loop-left.invariant.value)) c.loop-left.invariant.rest c.if-quotient-limit-2.false c.else-quotient-limit-3.either
