use Rattle.std.proofs.Common.{◌∙◌, ℕ, sym, subst}
use Rattle.std.proofs.lemmas.Bool.{false≢true}
use Rattle.dcel_convenience.specs.Anywhere.{IsFirstToCollapse}
use Rattle.dcel_convenience.specs.Collapsing.{CanCollapse}
use Rattle.dcel_convenience.proofs.Looking.{looks_end, looks_from, looks_next}
use Rattle.dcel_convenience.proofs.anywhere.first_to_collapse.Goals as goal

pub loop-edge-init : goal.loop-edge-init
loop-edge-init g c =
    looks_from c.args.dcel.now c.vertex.result.dcel.now c.args.vertex c.vertex.result.number (λ k. CanCollapse c.args.dcel.now.shape k)
    c.into_iter-edge-iterator.result.items (rw c.into_iter-edge-iterator.ensures.into_iter_gives c.out_edges-edge-items.ensures.items)
    c.out_edges-edge-items.ensures.each c.vertex.ensures.mesh c.vertex.ensures.number

pub returns-then-can_collapse_edge : goal.returns-then-can_collapse_edge
returns-then-can_collapse_edge g c =
    let m = c.args.dcel.now in
    let came = looks_next m c.args.vertex (λ k. CanCollapse m.shape k) _ _ _ _ c.loop-edge.invariant c.in-Some.ensures.steps.0 in
    subst (λ (k : ℕ). IsFirstToCollapse m c.args.vertex k) (sym c.fix-spoke.ensures.value)
    (record {
      out = came.out;
      can = subst (λ (k : ℕ). CanCollapse m.shape k) c.fix-spoke.ensures.value (c.can_collapse_edge.ensures.0 c.if-can_collapse_edge.true);
      before = came.before;
      after = came.after;
      are = came.are;
      none = came.none;
    })

pub loop-edge-preserved : goal.loop-edge-preserved
loop-edge-preserved g c =
    let m = c.args.dcel.now in
    let came = looks_next m c.args.vertex (λ k. CanCollapse m.shape k) _ _ _ _ c.loop-edge.invariant c.in-Some.ensures.steps.0 in
    came.goes_on (λ can.
    false≢true (sym c.if-can_collapse_edge.false ∙ c.can_collapse_edge.ensures.1 (subst (λ (k : ℕ). CanCollapse m.shape k) (sym c.fix-spoke.ensures.value) can)))

pub returns : goal.returns
returns g c =
    looks_end c.args.dcel.now c.args.vertex (λ k. CanCollapse c.args.dcel.now.shape k) _ c.loop-edge.invariant c.in-None.ensures.steps.0.0
