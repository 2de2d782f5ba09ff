use Rattle.std.proofs.Common.{◌∙◌, ℕ, refl, sym, subst}
use Rattle.std.proofs.lemmas.Bool.{false≢true}
use Rattle.dcel_convenience.specs.Simple.{IsOnly}
use Rattle.dcel_convenience.proofs.Passes.{passes_end, passes_next}
use Rattle.dcel_convenience.proofs.collapsing.has_only_edges.Goals as goal

pub is_only-requires : goal.is_only-requires
is_only-requires g c =
    let came = passes_next c.args.dcel.now c.args.vertex (λ k. IsOnly c.args.dcel.now.shape k) _ _ _ _ c.loop-edge.invariant c.in-Some.ensures.steps.0 in
    rw c.fix.ensures.value came.out.live

pub returns-then-not-is_only : goal.returns-then-not-is_only
returns-then-not-is_only g c =
    let came = passes_next c.args.dcel.now c.args.vertex (λ k. IsOnly c.args.dcel.now.shape k) _ _ _ _ c.loop-edge.invariant c.in-Some.ensures.steps.0 in (
      λ no. absurd (false≢true no),
      λ all. absurd (false≢true (sym c.if-not-is_only.true
          ∙ c.is_only.ensures.1 (subst (λ (k : ℕ). IsOnly c.args.dcel.now.shape k) (sym c.fix.ensures.value) (all c.in-Some.edge.number came.out)))),
    )

pub loop-edge-preserved : goal.loop-edge-preserved
loop-edge-preserved g c =
    let came = passes_next c.args.dcel.now c.args.vertex (λ k. IsOnly c.args.dcel.now.shape k) _ _ _ _ c.loop-edge.invariant c.in-Some.ensures.steps.0 in
    came.goes_on (rw c.fix.ensures.value at (c.is_only.ensures.0 c.if-not-is_only.false))

pub returns : goal.returns
returns g c = (
  λ yes. passes_end c.args.dcel.now c.args.vertex (λ k. IsOnly c.args.dcel.now.shape k) _ c.loop-edge.invariant c.in-None.ensures.steps.0.0,
  λ all. refl,
)
