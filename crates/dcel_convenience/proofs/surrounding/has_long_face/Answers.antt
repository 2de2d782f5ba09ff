use Rattle.std.proofs.Common.{◌∙◌, ℕ, refl, sym, subst}
use Rattle.std.proofs.lemmas.Bool.{false≢true}
use Rattle.dcel_convenience.specs.Surrounding.{IsInLongFace}
use Rattle.dcel_convenience.proofs.Passes.{passes_end, passes_next}
use Rattle.dcel_convenience.proofs.surrounding.has_long_face.Goals as goal

pub is_in_long_face-requires : goal.is_in_long_face-requires
is_in_long_face-requires g c =
    let came = passes_next c.args.dcel.now c.args.vertex (λ k. ¬ IsInLongFace c.args.dcel.now.shape k) _ _ _ _ c.loop-edge.invariant c.in-Some.ensures.steps.0 in
    rw c.fix.ensures.value came.out.live

pub returns-then-is_in_long_face : goal.returns-then-is_in_long_face
returns-then-is_in_long_face g c =
    let s = c.args.dcel.now.shape in
    let came = passes_next c.args.dcel.now c.args.vertex (λ k. ¬ IsInLongFace s k) _ _ _ _ c.loop-edge.invariant c.in-Some.ensures.steps.0 in (
      λ yes. (
        c.in-Some.edge.number,
        came.out,
        subst (λ (k : ℕ). IsInLongFace s k) c.fix.ensures.value (c.is_in_long_face.ensures.0 c.if-is_in_long_face.true),
      ),
      λ has. refl,
    )

pub loop-edge-preserved : goal.loop-edge-preserved
loop-edge-preserved g c =
    let s = c.args.dcel.now.shape in
    let came = passes_next c.args.dcel.now c.args.vertex (λ k. ¬ IsInLongFace s k) _ _ _ _ c.loop-edge.invariant c.in-Some.ensures.steps.0 in
    came.goes_on (λ long.
    false≢true (sym c.if-is_in_long_face.false ∙ c.is_in_long_face.ensures.1 (subst (λ (k : ℕ). IsInLongFace s k) (sym c.fix.ensures.value) long)))

pub returns : goal.returns
returns g c = (
  λ yes. absurd (false≢true yes),
  λ has. absurd (passes_end c.args.dcel.now c.args.vertex (λ k. ¬ IsInLongFace c.args.dcel.now.shape k) _ c.loop-edge.invariant c.in-None.ensures.steps.0.0
      has.0 has.1 has.2),
)
