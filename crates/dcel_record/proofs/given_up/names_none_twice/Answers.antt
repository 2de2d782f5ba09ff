use Rattle.std.proofs.Common.{◌≡◌, ◌==◌, suc, inl, inr, sym, ◌∙◌, arith, refl, subst, slice_index, drop, false}
use Rattle.std.proofs.lemmas.Bool.{cases_lt}
use Rattle.std.specs.List.{list_any}
use Rattle.dcel_record.proofs.Twice.{behind-at}
use Rattle.dcel_record.proofs.given_up.names_none_twice.Goals as goal

-- src/given_up.rt:94:5
pub loop-index-init : goal.loop-index-init
loop-index-init g c i below = absurd (omega (arith, below))

-- src/given_up.rt:94:5
pub loop-index-preserved : goal.loop-index-preserved
loop-index-preserved g c i below = elim (cases_lt i c.loop-index.index) [
  | inl before ↦ c.loop-index.invariant i before
  | inr here ↦
      let same : c.loop-index.index ≡ i = omega (arith, below, here) in
      subst (λ j. list_any (λ y. y == slice_index c.args.list.now j) (drop (suc j) c.args.list.now) ≡ false) same
      (sym (behind-at c.args.list.now c.split_at.result.1.now c.loop-index.index c.index-list-index.result c.loop-index-test.true c.index-list-index.is c.split_at.ensures.back)
      ∙ sym c.contains.ensures.value ∙ c.if-contains.false)
]

-- src/given_up.rt:91:1
pub returns : goal.returns
returns g c = (λ yes i below. c.loop-index.invariant i (omega (arith, below, c.loop-index-test.false)), λ all. refl)
