-- Which sides lead back, and which are the first of their edges.
use Rattle.std.proofs.Common.{◌≡◌, inl, inr, ℕ, zero, suc, ◌+◌, ◌<◌, ◌≤◌, ◌==◌, Bool, true, false, List, slice_index, unwrap_or, Option, Some, None, refl, sym, ap, ◌∙◌, subst, eq-eqb, arith}
use Rattle.std.proofs.lemmas.Bool.{and_from, and_parts, cases_Bool, cases_lt, eqb-true, false≢true, not_from_false, not_from_true}
use Rattle.dcel_maps.specs.Maps.{any_below, count}
use Rattle.dcel_maps.proofs.maps.Counts.{any_below_cases, any_below_from}
use Rattle.dcel_exchange.specs.Corners.{LeadsBack, is_first, leads_back}

-- what holds of each number below i, and of i
pub each_below : (P : ℕ → Type 0) (i : ℕ) → ((p : ℕ) → p < i → P p) → P i → (p : ℕ) → p < i + 1 → P p
each_below P i old new p below = elim (cases_lt p i) [
  | inl less ↦ old p less
  | inr past ↦ let same : i ≡ p = omega (arith, below, past) in subst P same new
]

pub one_of : (p q : ℕ) → Some p ≡ Some q → p ≡ q
one_of p q same = ap (λ o. unwrap_or o 0) same

abbrev is_some : Option ℕ → Bool
is_some None = false
is_some (Some p) = true

pub not_none : (p : ℕ) → Some p ≡ None → ⊥
not_none p same = false≢true (sym (ap is_some same))

module _ (from to : List ℕ) where
  back_test : (p q : ℕ) → LeadsBack from to p q → leads_back from to p q ≡ true
  back_test p q back = and_from _ _ (eq-eqb _ _ back.0) (eq-eqb _ _ back.1)

  test_back : (p q : ℕ) → leads_back from to p q ≡ true → LeadsBack from to p q
  test_back p q test = let both = and_parts (slice_index from q == slice_index to p) (slice_index to q == slice_index from p) test in (eqb-true _ _ both.0, eqb-true _ _ both.1)

  -- where no side before it leads back, a side is the first of its edge
  pub first_from : (p : ℕ) → ((q : ℕ) → q < p → ¬ LeadsBack from to p q) → is_first from to p ≡ true
  first_from p none = elim (cases_Bool (any_below (leads_back from to p) p)) [
    | inl some ↦ let r = any_below_cases (leads_back from to p) p some in absurd (none r.0 r.1 (test_back p r.0 r.2))
    | inr alone ↦ not_from_false _ alone
  ]

  pub second_from : (p q : ℕ) → q < p → LeadsBack from to p q → is_first from to p ≡ false
  second_from p q below back = not_from_true _ (any_below_from (leads_back from to p) p q below (back_test p q back))

  pub count_first : (i : ℕ) → is_first from to i ≡ true → count (is_first from to) (i + 1) ≡ count (is_first from to) i + 1
  count_first i first =
      let next : i + 1 ≡ suc i = omega arith in
      let more : count (is_first from to) (suc i) ≡ suc (count (is_first from to) i) = rw first refl in
      ap (count (is_first from to)) next ∙ more ∙ omega arith

  pub count_second : (i : ℕ) → is_first from to i ≡ false → count (is_first from to) (i + 1) ≡ count (is_first from to) i
  count_second i second =
      let next : i + 1 ≡ suc i = omega arith in
      let same : count (is_first from to) (suc i) ≡ count (is_first from to) i = rw second refl in
      ap (count (is_first from to)) next ∙ same

  pub count_few : (i : ℕ) → count (is_first from to) i ≤ i
  count_few zero = omega arith
  count_few (suc i) = elim (cases_Bool (is_first from to i)) [
    | inl first ↦ rw first (omega (arith, count_few i))
    | inr second ↦ rw second (omega (arith, count_few i))
  ]
