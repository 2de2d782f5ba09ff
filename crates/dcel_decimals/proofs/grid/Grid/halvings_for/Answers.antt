use Rattle.std.proofs.Common.{◌≡◌, ℕ, ◌*◌, ◌^◌, ◌<◌, ◌≤◌, unsigned_abs, true, false, Option, Some, None, MatchOption, is_some, ⊎_elim, sym, ap, subst, ◌∙◌, arith}
use Rattle.std.specs.Int.{w128}
use Rattle.std.proofs.lemmas.Bool.{cases_eq}
use Rattle.std.proofs.lemmas.Int.{fits_signed_from_abs, to_z-of_z}
use Rattle.dcel_decimals.specs.Grids.{FitsGrid}
use Rattle.dcel_decimals.specs.declared.floor.Floor.{Floor}
use Rattle.dcel_decimals.proofs.grid.Grid.halvings_for.Goals as goal
use Rattle.dcel_decimals.proofs.Gridding.{fits_coarsest}

some_told : (r : Option Floor) (P Q : Type 0) → is_some r ≡ true → MatchOption r P (λ _. Q) → Q
some_told (Some floor) P Q told h = h
some_told None P Q told h = absurd (cc)

none_told : (r : Option Floor) (P Q : Type 0) → is_some r ≡ false → MatchOption r P (λ _. Q) → P
none_told (Some floor) P Q told h = absurd (cc)
none_told None P Q told h = h

pub returns-then-is_some-clause-fits : goal.returns-then-is_some-clause-fits
returns-then-is_some-clause-fits c =
    let d = c.args.decimal in
    let k = c.loop-halvings.halvings in
    let m = to_z-of_z w128 d.mantissa (fits_signed_from_abs w128 d.mantissa (omega (arith, d.few_digits))) in
    let size : c.unsigned_abs-size.result ≡ unsigned_abs d.mantissa = c.unsigned_abs-size.ensures.value ∙ ap unsigned_abs m in
    subst (λ (n : ℕ). n * 2 ^ k ≤ 2 ^ 63 * 10 ^ d.places) size
    (some_told c.floor_of.result (2 ^ 63 * 10 ^ d.places < c.unsigned_abs-size.result * 2 ^ k) (c.unsigned_abs-size.result * 2 ^ k ≤ 2 ^ 63 * 10 ^ d.places) (sym c.is_some.ensures ∙ c.if-is_some.true) c.floor_of.ensures.range)

pub loop-halvings-preserved : goal.loop-halvings-preserved
loop-halvings-preserved c =
    let d = c.args.decimal in
    let now = c.loop-halvings.halvings in
    let m = to_z-of_z w128 d.mantissa (fits_signed_from_abs w128 d.mantissa (omega (arith, d.few_digits))) in
    let size : c.unsigned_abs-size.result ≡ unsigned_abs d.mantissa = c.unsigned_abs-size.ensures.value ∙ ap unsigned_abs m in
    let beyond : 2 ^ 63 * 10 ^ d.places < unsigned_abs d.mantissa * 2 ^ now =
    subst (λ (n : ℕ). 2 ^ 63 * 10 ^ d.places < n * 2 ^ now) size
    (none_told c.floor_of.result (2 ^ 63 * 10 ^ d.places < c.unsigned_abs-size.result * 2 ^ now) (c.unsigned_abs-size.result * 2 ^ now ≤ 2 ^ 63 * 10 ^ d.places) (sym c.is_some.ensures ∙ c.if-is_some.false) c.floor_of.ensures.range) in record {
      bound = omega (arith, c.loop-halvings.invariant.bound);
      finest = λ k most fits.
          let below = c.loop-halvings.invariant.finest k most fits in
          ⊎_elim
          (λ same. absurd (let at : unsigned_abs d.mantissa * 2 ^ k ≡ unsigned_abs d.mantissa * 2 ^ now = ap (λ (j : ℕ). unsigned_abs d.mantissa * 2 ^ j) same in omega (arith, at, fits, beyond)))
          (λ apart. omega (arith, below, apart))
          (cases_eq k now);
    }

pub returns-clause-fits : goal.returns-clause-fits
returns-clause-fits c = subst (λ (k : ℕ). FitsGrid k c.args.decimal) (let none : 0 ≡ c.loop-halvings.halvings = omega (arith, c.loop-halvings-test.false) in none) (fits_coarsest c.args.decimal)
