use Rattle.std.proofs.Common.{◌≡◌, ℕ, sym, ◌∙◌, subst}
use Rattle.dcel_maps.specs.Shapes.{Shape, IsLive}
use Rattle.dcel_maps.specs.Walking.{IsUnderWay, StepsTo}
use Rattle.dcel_maps.proofs.walks.Backwards.{goes_on_back, items_back}
use Rattle.dcel_maps.proofs.walks.Progress.{takes_last}
use Rattle.dcel_maps.proofs.words.Paths.{last_of-leads}
use Rattle.spade_dcel.proofs.iterators.circular_iterator.CircularIteratorDoubleEndedIterator.next_back.Goals as goal

-- the half edge before the last is live
before-live : {s : Shape} {step step_back : ℕ → ℕ} {current last : ℕ} → IsUnderWay s step step_back current last → (before : ℕ) → before ≡ step_back last
    → IsLive s before
before-live {s} {step} {step_back} {current} {last} u before stepped =
    let leads = last_of-leads (StepsTo s step step_back) current u.rest last u.path in
    subst (IsLive s) (sym (stepped ∙ leads.back)) leads.live

pub invariant_of-self : goal.invariant_of-self
invariant_of-self g c =
    rw c.eq-self-inside.ensures (goes_on_back (c.self.invariant c.if-self.false) c.fix-before.result cc)

pub returns-clause-steps : goal.returns-clause-steps
returns-clause-steps g c =
    let under_way = c.self.invariant c.if-self.false in (
      rw (← c.self.view_is, c.if-self.false, c.next_back-edge.ensures.mesh, c.directed_edge.ensures.mesh, ← c.fix-before.ensures.value, c.eq-self-inside.ensures)
          (items_back under_way c.fix-before.result (cc) c.self.inside.dcel.now),
      rw (c.next_back-edge.ensures.mesh, c.directed_edge.ensures.mesh, ← c.fix-before.ensures.value) (before-live under_way c.fix-before.result cc),
    )

pub returns-clause-goes : goal.returns-clause-goes
returns-clause-goes g c =
    takes_last (λ walk. walk.items) _ (returns-clause-steps g c).0
