use Rattle.std.proofs.Common.{◌≡◌, ◌∙◌, ℕ, inl, inr, subst, sym, arith}
use Rattle.std.proofs.lemmas.Bool.{cases_lt, false≢true}
use Rattle.dcel_maps.proofs.Liveness.{closed-half_live}
use Rattle.dcel_maps.specs.Shapes.{face_of}
use Rattle.dcel_refinement.specs.Quality.{IsFlagged, IsGoodAt}
use Rattle.dcel_refinement.proofs.judging.are_refined.Goals as goal

pub returns-then-not-passes_if_wanted : goal.returns-then-not-passes_if_wanted
returns-then-not-passes_if_wanted g c = (
  λ no. absurd (false≢true no),
  λ good.
      let told = rw c.new.ensures at c.passes_if_wanted.ensures in
      let live =
      closed-half_live c.args.mesh.now.shape c.requires.closed c.loop-index.index (omega (arith, c.loop-index-test.true, c.num_directed_edges-index-end.ensures.count)) in
      let yes = told.1 (λ refined. good c.loop-index.index live refined) in
      let no = c.if-not-passes_if_wanted.true in
      cc,
)

pub loop-index-preserved : goal.loop-index-preserved
loop-index-preserved g c h below = elim (cases_lt h c.loop-index.index) [
  | inl before ↦ c.loop-index.invariant h before
  | inr not ↦
      (let is : h ≡ c.loop-index.index = omega (arith, not, below) in
      let m = c.args.mesh.now in
      subst (λ (i : ℕ). IsFlagged c.args.is_wanted.now (face_of m.shape i) → IsGoodAt m c.args.parameters.now i) (c.new.ensures ∙ sym is)
      (c.passes_if_wanted.ensures.0 c.if-not-passes_if_wanted.false))
]
