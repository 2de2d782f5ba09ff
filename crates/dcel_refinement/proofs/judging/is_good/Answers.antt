use Rattle.std.proofs.Common.{◌≡◌, ◌∙◌, ℕ, inl, inr, subst, sym, arith}
use Rattle.std.proofs.lemmas.Bool.{cases_lt, false≢true}
use Rattle.dcel_maps.proofs.Liveness.{closed-half_live}
use Rattle.dcel_maps.specs.Shapes.{face_of}
use Rattle.dcel_refinement.specs.Quality.{IsGoodAt, IsRefined}
use Rattle.dcel_refinement.proofs.judging.is_good.Goals as goal

pub returns-then-not-passes : goal.returns-then-not-passes
returns-then-not-passes g c = (
  λ no. absurd (false≢true no),
  λ good.
      let told = rw c.new.ensures at c.passes.ensures in
      let live =
      closed-half_live c.args.mesh.now.shape c.requires.closed c.loop-number.number (omega (arith, c.loop-number-test.true, c.num_directed_edges-number-end.ensures.count)) in
      let yes = told.1 (λ refined. good c.loop-number.number live refined) in
      let no = c.if-not-passes.true in
      cc,
)

pub loop-number-preserved : goal.loop-number-preserved
loop-number-preserved g c h below = elim (cases_lt h c.loop-number.number) [
  | inl before ↦ c.loop-number.invariant h before
  | inr not ↦
      (let is : h ≡ c.loop-number.number = omega (arith, not, below) in
      let m = c.args.mesh.now in
      subst (λ (i : ℕ). IsRefined m c.args.parameters.now.faces (face_of m.shape i) → IsGoodAt m c.args.parameters.now i) (c.new.ensures ∙ sym is)
      (c.passes.ensures.0 c.if-not-passes.false))
]
