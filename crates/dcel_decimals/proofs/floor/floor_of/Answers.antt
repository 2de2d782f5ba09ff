use Rattle.std.proofs.Common.{◌≡◌, ℕ, ◌-◌, ◌*◌, ◌/◌, ◌^◌, ◌<◌, ◌≤◌, ◌↔◌, IsTrue, nat_eq, min, subst, ap, ◌∙◌, arith, lit<}
use Rattle.std.proofs.Math.Nat.{mul_assoc, pow-le-pow_right}
use Rattle.std.proofs.lemmas.Bool.Decides.{nat_tests}
use Rattle.dcel_decimals.specs.Floors.{IsFloor}
use Rattle.dcel_decimals.proofs.floor.floor_of.Goals as goal
use Rattle.dcel_decimals.proofs.Floors.{count_within, divisors, far_fits, far_floor, floor_again, whole_within}
use Rattle.dcel_decimals.proofs.Powers.{some}

pub returns-then-places-gt56-clause-floor : goal.returns-then-places-gt56-clause-floor
returns-then-places-gt56-clause-floor c =
    far_floor c.args.size c.args.places c.args.doublings c.requires.size c.requires.doublings c.if-places-gt56.true (nat_eq c.args.size 0) (told c.args.size)
  where
    told : (n : ℕ) → IsTrue (nat_eq n 0) ↔ (n ≡ 0)
    told n = (λ holds. grind (arith, nat_tests), λ e. grind (arith, nat_tests))

pub returns-then-places-gt56-clause-range : goal.returns-then-places-gt56-clause-range
returns-then-places-gt56-clause-range c = far_fits c.args.size c.args.places c.args.doublings c.requires.size c.requires.doublings c.if-places-gt56.true

pub pow-divisor-requires : goal.pow-divisor-requires
pow-divisor-requires c = let h : 10 ^ c.min-first.result ≤ 10 ^ 37 = pow-le-pow_right (lit< tt) {j = 37} (omega (arith, c.min-first.ensures)) in omega (arith, h)

pub doubled-requires-clause-some : goal.doubled-requires-clause-some
doubled-requires-clause-some c = omega (arith, c.pow-divisor.ensures, some c.min-first.result)

pub doubled-requires-clause-divisor : goal.doubled-requires-clause-divisor
doubled-requires-clause-divisor c = let h : 10 ^ c.min-first.result ≤ 10 ^ 37 = pow-le-pow_right (lit< tt) {j = 37} (omega (arith, c.min-first.ensures)) in omega (arith, h, c.pow-divisor.ensures)

-- the whole divisor
ten_at : (places first second divisor : ℕ) → first ≡ min places 37 → divisor ≡ 10 ^ first → second ≡ 10 ^ (places - first) → 2 ^ 63 * second * divisor ≡ 2 ^ 63 * 10 ^ places
ten_at places first second divisor e ed es = mul_assoc (2 ^ 63) second divisor ∙ ap (λ (n : ℕ). 2 ^ 63 * n) (divisors places first 37 second divisor e ed es)

above : (c : goal.In_default) → 2 ^ 63 * 10 ^ c.args.places < c.args.size * 2 ^ c.args.doublings
above c =
    subst (λ (n : ℕ). n < c.args.size * 2 ^ c.args.doublings) (ten_at c.args.places c.min-first.result c.pow-second.result c.pow-divisor.result c.min-first.ensures c.pow-divisor.ensures c.pow-second.ensures)
    c.in_default.ensures.range

pub returns-in_default-clause-floor : goal.returns-in_default-clause-floor
returns-in_default-clause-floor c = above c

pub returns-in_default-clause-range : goal.returns-in_default-clause-range
returns-in_default-clause-range c = above c

pub nonzero_div-result : goal.nonzero_div-result
nonzero_div-result c = omega (arith, c.pow-second.ensures, some (c.args.places - c.min-first.result))

pub is_multiple_of-requires : goal.is_multiple_of-requires
is_multiple_of-requires c = omega (arith, c.pow-second.ensures, some (c.args.places - c.min-first.result))

pub overflow_cast-result : goal.overflow_cast-result
overflow_cast-result c =
    let q = c.in-Some.quotient in
    let within = whole_within q.whole c.pow-divisor.result q.rest (c.args.size * 2 ^ c.args.doublings) (2 ^ 63 * c.pow-second.result) c.in-Some.ensures.value c.in-Some.ensures.rest c.in-Some.ensures.range in
    let some_left : 0 < c.pow-second.result = omega (arith, c.pow-second.ensures, some (c.args.places - c.min-first.result)) in
    let h = count_within q.whole c.pow-divisor.result q.rest c.pow-second.result (c.args.size * 2 ^ c.args.doublings) c.in-Some.ensures.value c.in-Some.ensures.rest some_left (2 ^ 63) within in
    omega (arith, h)

pub invariant_of-result-2 : goal.invariant_of-result-2
invariant_of-result-2 c =
    let q = c.in-Some.quotient in
    let within = whole_within q.whole c.pow-divisor.result q.rest (c.args.size * 2 ^ c.args.doublings) (2 ^ 63 * c.pow-second.result) c.in-Some.ensures.value c.in-Some.ensures.rest c.in-Some.ensures.range in
    let some_left : 0 < c.pow-second.result = omega (arith, c.pow-second.ensures, some (c.args.places - c.min-first.result)) in
    record { in_range = count_within q.whole c.pow-divisor.result q.rest c.pow-second.result (c.args.size * 2 ^ c.args.doublings) c.in-Some.ensures.value c.in-Some.ensures.rest some_left (2 ^ 63) within }

pub returns-clause-floor : goal.returns-clause-floor
returns-clause-floor c =
    let q = c.in-Some.quotient in
    let n = c.args.size * 2 ^ c.args.doublings in
    let some_left : 0 < c.pow-second.result = omega (arith, c.pow-second.ensures, some (c.args.places - c.min-first.result)) in
    subst (λ (d : ℕ). IsFloor n d (q.whole / c.pow-second.result) c.is_multiple_of.result)
    (divisors c.args.places c.min-first.result 37 c.pow-second.result c.pow-divisor.result c.min-first.ensures c.pow-divisor.ensures c.pow-second.ensures)
    (floor_again q.whole c.pow-divisor.result q.rest c.pow-second.result n c.in-Some.ensures.value c.in-Some.ensures.rest some_left c.is_multiple_of.result c.is_multiple_of.ensures)

pub returns-clause-range : goal.returns-clause-range
returns-clause-range c =
    subst (λ (n : ℕ). c.args.size * 2 ^ c.args.doublings ≤ n) (ten_at c.args.places c.min-first.result c.pow-second.result c.pow-divisor.result c.min-first.ensures c.pow-divisor.ensures c.pow-second.ensures)
    c.in-Some.ensures.range
