use Rattle.std.proofs.Common.{◌≡◌, ◌==◌, inl, inr, sym, ◌∙◌, arith, ap, not, slice_index, refl, true, subst}
use Rattle.std.proofs.lemmas.Bool.{cases_lt, false≢true}
use Rattle.std.specs.List.{list_any}
use Rattle.dcel_maps.proofs.words.Ascending.{goes_up-ascends}
use Rattle.dcel_record.proofs.Twice.{found-at}
use Rattle.dcel_record.proofs.given_up.all_stand_in.Goals as goal

-- src/given_up.rt:84:5
pub loop-index-init : goal.loop-index-init
loop-index-init g c i below = absurd (omega (arith, below))

-- src/given_up.rt:86:13
pub returns-then-is_err : goal.returns-then-is_err
returns-then-is_err g c =
    let found = found-at c.args.list.now c.args.ascending.now c.loop-index.index c.index-list-index.result c.binary_search.result
    c.loop-index-test.true c.index-list-index.is (goes_up-ascends _ c.requires) c.binary_search.ensures.position in
    (λ no. absurd (false≢true no), λ all. sym (c.is_err.ensures.negation ∙ ap not c.if-is_err.true) ∙ found ∙ all c.loop-index.index c.loop-index-test.true)

-- src/given_up.rt:84:5
pub loop-index-preserved : goal.loop-index-preserved
loop-index-preserved g c i below = elim (cases_lt i c.loop-index.index) [
  | inl before ↦ c.loop-index.invariant i before
  | inr here ↦
      let found = found-at c.args.list.now c.args.ascending.now c.loop-index.index c.index-list-index.result c.binary_search.result
      c.loop-index-test.true c.index-list-index.is (goes_up-ascends _ c.requires) c.binary_search.ensures.position in
      let same : c.loop-index.index ≡ i = omega (arith, below, here) in
      subst (λ j. list_any (λ y. y == slice_index c.args.list.now j) c.args.ascending.now ≡ true) same
      (sym found ∙ c.is_err.ensures.negation ∙ ap not c.if-is_err.false)
]

-- src/given_up.rt:80:1
pub returns : goal.returns
returns g c = (λ yes i below. c.loop-index.invariant i (omega (arith, below, c.loop-index-test.false)), λ all. refl)
