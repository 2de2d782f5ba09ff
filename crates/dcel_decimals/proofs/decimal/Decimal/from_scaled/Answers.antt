use Rattle.std.proofs.Common.{◌≡◌, ℕ, ◌^◌, ◌%◌, ◌<◌, ◌≤◌, ◌⊎◌, inl, inr, unsigned_abs, w64, to_z, of_z, ap, sym, ◌∙◌, arith}
use Rattle.std.specs.Int.{w128}
use Rattle.std.proofs.lemmas.Int.{fits_signed_from_abs, to_z-of_z}
use Rattle.dcel_decimals.proofs.decimal.Decimal.from_scaled.Goals as goal
use Rattle.dcel_decimals.proofs.decimal.Decimal.from_scaled.Goals.{then-loop-places-test+else-size-eq0, else-loop-places-test}
use Rattle.dcel_decimals.proofs.Powers.{some, zero_taken}

pub loop-places-preserved : goal.loop-places-preserved
loop-places-preserved c = (
  zero_taken c.loop-places.size c.unsigned_abs-size.result c.loop-places.places (10 ^ c.args.scale.power) c.if-size-eq0.true c.loop-places-test.true c.loop-places.invariant.0,
  omega arith,
  omega arith,
)

-- what is left ends in no zero, unless there is no place more
last : (size places : ℕ) → ((0 < places) × (size % 10 ≡ 0 → ⊥)) ⊎ (places ≤ 0) → size % 10 ≡ 0 → places ≡ 0
last size places (inl some) z = absurd (some.1 z)
last size places (inr none) z = omega arith

ended : (c : goal.After-like) → ((0 < c.loop-places.places) × (c.loop-places.size % 10 ≡ 0 → ⊥)) ⊎ (c.loop-places.places ≤ 0)
ended c = elim c.loop-places-test.branch [ then-loop-places-test+else-size-eq0 w ↦ inl (w.loop-places-test.true, w.if-size-eq0.false) | else-loop-places-test w ↦ inr w.loop-places-test.false ]

pub invariant_of-result : goal.invariant_of-result
invariant_of-result c =
    let size = c.loop-places.size in
    let places = c.loop-places.places in
    let before = c.loop-places.invariant in
    let number = to_z-of_z w64 c.args.number (fits_signed_from_abs w64 c.args.number (omega arith)) in
    let whole : c.unsigned_abs-size.result ≡ unsigned_abs c.args.number = c.unsigned_abs-size.ensures.value ∙ ap unsigned_abs number in
    let few : size < 2 ^ 63 = omega (arith, before.2, whole) in
    let small : unsigned_abs c.like.result < 2 ^ 63 = omega (arith, few, c.like.ensures.size) in
    let held : unsigned_abs (to_z w128 (of_z w128 c.like.result)) ≡ size = ap unsigned_abs (to_z-of_z w128 c.like.result (fits_signed_from_abs w128 c.like.result (omega (arith, small)))) ∙ c.like.ensures.size in record {
      few_digits = omega (arith, held);
      few_places = omega (arith, before.1);
      in_range = omega (arith, held, some places);
      shortest = λ z. last size places (ended c) (ap (λ (n : ℕ). n % 10) (sym held) ∙ z);
    }
