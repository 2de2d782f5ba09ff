use Rattle.std.proofs.Common.{◌≡◌, inl, inr, ℕ, ◌/◌, Some, slice_get, sym, ap, ◌∙◌, subst, arith}
use Rattle.std.proofs.lemmas.Bool.{cases_lt}
use Rattle.dcel_regions.specs.Marked.{IsMarked}
use Rattle.dcel_constrained.proofs.Places.{among, get_there, one_there, place_of}
use Rattle.dcel_constrained.proofs.segments.chains.is_some_marked.Goals as goal

pub returns-then-is_marked-clause-some : goal.returns-then-is_marked-clause-some
returns-then-is_marked-clause-some g c = λ yes.
    let list = c.args.halves.now in
    let h = c.index-halves-at.result in (
      h,
      among list c.loop-at.at h (get_there list c.loop-at.at h h c.loop-at-test.true c.index-halves-at.is),
      subst (λ (u : ℕ). IsMarked c.args.dcel.now u) c.as_undirected.ensures (c.is_marked.ensures.0 c.if-is_marked.true),
    )

pub loop-at-preserved : goal.loop-at-preserved
loop-at-preserved g c = λ i h below there marked.
    let list = c.args.halves.now in
    let k = c.index-halves-at.result in
    elim (cases_lt i c.loop-at.at) [
      | inl before ↦ c.loop-at.invariant i h before there marked
      | inr not ↦
          (let is : c.loop-at.at ≡ i = omega (arith, below, not) in
          let here : slice_get list c.loop-at.at ≡ Some k = get_there list c.loop-at.at k k c.loop-at-test.true c.index-halves-at.is in
          let same : h ≡ k = one_there list i h k there (subst (λ (p : ℕ). slice_get list p ≡ Some k) is here) in
          let yes =
          c.is_marked.ensures.1 (subst (λ (u : ℕ). IsMarked c.args.dcel.now u) (ap (λ (x : ℕ). x / 2) same ∙ sym c.as_undirected.ensures) marked) in
          let no = c.if-is_marked.false in cc)
    ]

pub returns-clause-none : goal.returns-clause-none
returns-clause-none g c = λ is h there.
    let place = place_of c.args.halves.now h there in
    let below = place.1 in
    c.loop-at.invariant place.0 h (omega (arith, below, c.loop-at-test.false)) place.2
