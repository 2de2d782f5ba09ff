use Rattle.std.proofs.Common.{◌≡◌, ◌∙◌, refl, sym, subst, ℕ, ◌<◌}
use Rattle.std.proofs.lemmas.Bool.{false≢true}
use Rattle.dcel_convenience.specs.Collapsing.{AreJoinedBesides}
use Rattle.dcel_convenience.proofs.Passes.{passes_end, passes_next}
use Rattle.dcel_convenience.proofs.collapsing.shares_only.Goals as goal
use Rattle.dcel_maps.specs.Shapes.{Mesh, end_of}
use Rattle.spade_dcel.specs.Handles.{number_of}

pub are_joined_besides-requires-clause-other : goal.are_joined_besides-requires-clause-other
are_joined_besides-requires-clause-other g c =
    let s = c.args.dcel.now.shape in
    let came = passes_next c.args.dcel.now c.args.start (λ k. ¬ AreJoinedBesides s c.args.end (end_of s k) c.args.left c.args.right) _ _ _ _ c.loop-edge.invariant c.in-Some.ensures.steps.0 in
    subst (λ (x : Mesh g.row.V.Denot g.row.DE.Denot g.row.UE.Denot g.row.F.Denot). c.fix-neighbor.result < x.shape.vertices) (c.to.ensures.mesh ∙ came.same)
    c.fix-neighbor.ensures.in_range

pub returns-then-are_joined_besides : goal.returns-then-are_joined_besides
returns-then-are_joined_besides g c =
    let s = c.args.dcel.now.shape in
    let came = passes_next c.args.dcel.now c.args.start (λ k. ¬ AreJoinedBesides s c.args.end (end_of s k) c.args.left c.args.right) _ _ _ _ c.loop-edge.invariant c.in-Some.ensures.steps.0 in
    let end : c.fix-neighbor.result ≡ end_of s (number_of c.in-Some.edge) = c.fix-neighbor.ensures.value ∙ rw came.same at c.to.ensures.number in (
      λ no. absurd (false≢true no),
      λ each. absurd (each (number_of c.in-Some.edge) came.out
          (subst (λ (w : ℕ). AreJoinedBesides s c.args.end w c.args.left c.args.right) end (c.are_joined_besides.ensures.0 c.if-are_joined_besides.true))),
    )

pub loop-edge-preserved : goal.loop-edge-preserved
loop-edge-preserved g c =
    let s = c.args.dcel.now.shape in
    let came = passes_next c.args.dcel.now c.args.start (λ k. ¬ AreJoinedBesides s c.args.end (end_of s k) c.args.left c.args.right) _ _ _ _ c.loop-edge.invariant c.in-Some.ensures.steps.0 in
    let end : c.fix-neighbor.result ≡ end_of s (number_of c.in-Some.edge) = c.fix-neighbor.ensures.value ∙ rw came.same at c.to.ensures.number in
    came.goes_on (λ besides.
    false≢true (sym c.if-are_joined_besides.false
    ∙ c.are_joined_besides.ensures.1 (subst (λ (w : ℕ). AreJoinedBesides s c.args.end w c.args.left c.args.right) (sym end) besides)))

pub returns : goal.returns
returns g c =
    let s = c.args.dcel.now.shape in (
      λ yes. passes_end c.args.dcel.now c.args.start (λ k. ¬ AreJoinedBesides s c.args.end (end_of s k) c.args.left c.args.right) _ c.loop-edge.invariant
          c.in-None.ensures.steps.0.0,
      λ each. refl,
    )
