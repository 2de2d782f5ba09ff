use Rattle.std.proofs.Common.{◌≡◌, ◌⊎◌, Some}
use Rattle.dcel_convenience.specs.Surrounding.{IsInTriangle}
use Rattle.dcel_convenience.proofs.Passes.{passes_end, passes_next}
use Rattle.dcel_convenience.proofs.surrounding.odd_spoke.Goals as goal

pub is_odd-requires : goal.is_odd-requires
is_odd-requires g c =
    let came = passes_next c.args.dcel.now c.args.vertex (λ h. (c.args.skipped.now ≡ Some h) ⊎ IsInTriangle c.args.dcel.now.shape h) _ _ _ _ c.loop-edge.invariant c.in-Some.ensures.steps.0 in
    rw c.fix-spoke.ensures.value came.out.live

pub returns-then-is_odd : goal.returns-then-is_odd
returns-then-is_odd g c =
    let came = passes_next c.args.dcel.now c.args.vertex (λ h. (c.args.skipped.now ≡ Some h) ⊎ IsInTriangle c.args.dcel.now.shape h) _ _ _ _ c.loop-edge.invariant c.in-Some.ensures.steps.0 in
    let odd = rw c.if-is_odd.true at c.is_odd.ensures.odd in
    (rw c.fix-spoke.ensures.value came.out, odd.0, odd.1)

pub loop-edge-preserved : goal.loop-edge-preserved
loop-edge-preserved g c =
    let came = passes_next c.args.dcel.now c.args.vertex (λ h. (c.args.skipped.now ≡ Some h) ⊎ IsInTriangle c.args.dcel.now.shape h) _ _ _ _ c.loop-edge.invariant c.in-Some.ensures.steps.0 in
    came.goes_on (rw c.fix-spoke.ensures.value at (rw c.if-is_odd.false at c.is_odd.ensures.even))

pub returns : goal.returns
returns g c =
    passes_end c.args.dcel.now c.args.vertex (λ h. (c.args.skipped.now ≡ Some h) ⊎ IsInTriangle c.args.dcel.now.shape h) _ c.loop-edge.invariant c.in-None.ensures.steps.0.0
