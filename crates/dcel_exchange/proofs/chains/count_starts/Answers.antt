use Rattle.std.proofs.Common.{◌≡◌, ◌≢◌, ◌∙◌, inl, inr, ℕ, ◌+◌, ◌^◌, ◌<◌, ◌≤◌, ◌==◌, false, List, count_by, length, slice_index, slice_set, take, get_or, eq-eqb, ap, sym, arith}
use Rattle.std.proofs.lemmas.Bool.{cases_Bool, cases_eq, eqb-true}
use Rattle.std.proofs.lemmas.List.{get_or-set_other, get_or-set_same, length-set, length-take-le}
use Rattle.std.proofs.lemmas.Grind.{get_or_default_zero}
use Rattle.std.proofs.lemmas.List.Sums.{count_by-le-length, count_by_more_no, count_by_more_yes}
use Rattle.dcel_exchange.proofs.chains.count_starts.Goals as goal

other_test : (a b : ℕ) → a ≢ b → (a == b) ≡ false
other_test a b apart = elim (cases_Bool (a == b)) [ inl same ↦ absurd (apart (eqb-true a b same)) | inr other ↦ other ]

-- one more start s is counted, where x were before
module _ (from counts : List ℕ) (vertices i x : ℕ) (within : i < length from) (places : length counts ≡ vertices) (below : get_or from i 0 < vertices)
    (so_far : (v : ℕ) → v < vertices → slice_index counts v ≡ count_by (λ start. start == v) (take i from)) (read : x ≡ get_or counts (get_or from i 0) x) where
  counted : x ≡ count_by (λ start. start == get_or from i 0) (take i from)
  counted = read ∙ get_or_default_zero counts (get_or from i 0) x (omega arith) ∙ so_far (get_or from i 0) below

  few_counted : length from ≤ 2 ^ 31 → x + 1 < 2 ^ 32
  few_counted few =
      let l = count_by-le-length (λ start. start == get_or from i 0) (take i from) in
      let t = length-take-le i from (omega arith) in
      let c = counted in
      omega arith

  one_more : (v : ℕ) → v < vertices → slice_index (slice_set counts (get_or from i 0) (x + 1)) v ≡ count_by (λ start. start == v) (take (i + 1) from)
  one_more v less = elim (cases_eq v (get_or from i 0)) [
    | inl here ↦
        ap (slice_index (slice_set counts (get_or from i 0) (x + 1))) here
        ∙ get_or-set_same counts (get_or from i 0) (x + 1) 0 (omega arith)
        ∙ ap (λ n. n + 1) counted
        ∙ ap (λ u. count_by (λ start. start == u) (take i from) + 1) (sym here)
        ∙ sym (count_by_more_yes (λ start. start == v) from i 0 within (eq-eqb _ _ (sym here)))
    | inr other ↦
        get_or-set_other counts (get_or from i 0) v (x + 1) 0 other
        ∙ so_far v less
        ∙ sym (count_by_more_no (λ start. start == v) from i 0 within (other_test (get_or from i 0) v (λ same. other (sym same))))
  ]

pub overflow_add-index_mut : goal.overflow_add-index_mut
overflow_add-index_mut g c =
    let few = few_counted c.args.from.now c.loop-start.counts.items c.args.vertices c.loop-start.start-index c.index_mut.result.now c.loop-start-test.true
    c.loop-start.invariant.places (c.requires.below c.loop-start.start-index c.loop-start-test.true) c.loop-start.invariant.counts c.index_mut.ensures.value c.requires.few in
    omega (arith, few)

pub loop-start-preserved : goal.loop-start-preserved
loop-start-preserved g c = record {
  places = length-set _ _ _ ∙ c.loop-start.invariant.places;
  counts = one_more c.args.from.now c.loop-start.counts.items c.args.vertices c.loop-start.start-index c.index_mut.result.now c.loop-start-test.true
      c.loop-start.invariant.places (c.requires.below c.loop-start.start-index c.loop-start-test.true) c.loop-start.invariant.counts c.index_mut.ensures.value;
}
