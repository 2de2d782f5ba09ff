use Rattle.std.proofs.Common.{◌≡◌, ◌≢◌, ◌∙◌, refl, sym, eq-eqb, eqb-true}
use Rattle.std.proofs.lemmas.Bool.{false≢true}
use Rattle.dcel_convenience.proofs.Joined.{apart_here, apart_there, joined_here, joined_there}
use Rattle.dcel_convenience.proofs.Passes.{passes_begin, passes_end, passes_next}
use Rattle.dcel_convenience.proofs.edges.are_joined.Goals as goal
use Rattle.dcel_maps.specs.Shapes.{end_of}
use Rattle.spade_dcel.specs.Handles.{number_of}

pub loop-near-init : goal.loop-near-init
loop-near-init g c =
    let m = c.args.dcel.now in
    let s = m.shape in (
      passes_begin m c.args.one (λ k. end_of s k ≢ c.args.other) c.out_edges-here.result.items
          (rw (c.vertex.ensures.mesh, c.vertex.ensures.number) at c.out_edges-here.ensures.items)
          (rw (c.vertex.ensures.mesh, c.vertex.ensures.number) at c.out_edges-here.ensures.each),
      passes_begin m c.args.other (λ k. end_of s k ≢ c.args.one) c.out_edges-there.result.items
          (rw (c.vertex-2.ensures.mesh, c.vertex-2.ensures.number) at c.out_edges-there.ensures.items)
          (rw (c.vertex-2.ensures.mesh, c.vertex-2.ensures.number) at c.out_edges-there.ensures.each),
    )

pub returns-then-eq : goal.returns-then-eq
returns-then-eq g c =
    let s = c.args.dcel.now.shape in
    let near = passes_next c.args.dcel.now c.args.one (λ k. end_of s k ≢ c.args.other) _ _ _ _ c.loop-near.invariant.0 c.in-Some.ensures.steps.0 in
    let end : c.fix.result ≡ end_of s (number_of c.in-Some.near) = c.fix.ensures.value ∙ rw near.same at c.to.ensures.number in
    (λ yes. joined_here s c.args.one c.args.other (number_of c.in-Some.near) near.out (sym end ∙ eqb-true c.fix.result c.args.other (sym c.eq.ensures ∙ c.if-eq.true)), λ joined. refl)

pub returns-in_default-next : goal.returns-in_default-next
returns-in_default-next g c =
    let s = c.args.dcel.now.shape in (
      λ no. absurd (false≢true no),
      λ joined. absurd (apart_there s c.args.one c.args.other (passes_end c.args.dcel.now c.args.other (λ k. end_of s k ≢ c.args.one) _ c.loop-near.invariant.1 c.in_default-next.ensures.steps.0.0) joined),
    )

pub returns-then-eq-2 : goal.returns-then-eq-2
returns-then-eq-2 g c =
    let s = c.args.dcel.now.shape in
    let far = passes_next c.args.dcel.now c.args.other (λ k. end_of s k ≢ c.args.one) _ _ _ _ c.loop-near.invariant.1 c.in-Some-next.ensures.steps.0 in
    let end : c.fix-in-Some.result ≡ end_of s (number_of c.in-Some-next.far) = c.fix-in-Some.ensures.value ∙ rw far.same at c.to-in-Some.ensures.number in
    (λ yes. joined_there s c.args.one c.args.other (number_of c.in-Some-next.far) far.out (sym end ∙ eqb-true c.fix-in-Some.result c.args.one (sym c.eq-in-Some.ensures ∙ c.if-eq-2.true)), λ joined. refl)

pub loop-near-preserved : goal.loop-near-preserved
loop-near-preserved g c =
    let s = c.args.dcel.now.shape in
    let near = passes_next c.args.dcel.now c.args.one (λ k. end_of s k ≢ c.args.other) _ _ _ _ c.loop-near.invariant.0 c.in-Some.ensures.steps.0 in
    let far = passes_next c.args.dcel.now c.args.other (λ k. end_of s k ≢ c.args.one) _ _ _ _ c.loop-near.invariant.1 c.in-Some-next.ensures.steps.0 in
    let end : c.fix.result ≡ end_of s (number_of c.in-Some.near) = c.fix.ensures.value ∙ rw near.same at c.to.ensures.number in
    let end_back : c.fix-in-Some.result ≡ end_of s (number_of c.in-Some-next.far) = c.fix-in-Some.ensures.value ∙ rw far.same at c.to-in-Some.ensures.number in (
      near.goes_on (λ is. false≢true (sym c.if-eq.false ∙ c.eq.ensures ∙ eq-eqb c.fix.result c.args.other (end ∙ is))),
      far.goes_on (λ is. false≢true (sym c.if-eq-2.false ∙ c.eq-in-Some.ensures ∙ eq-eqb c.fix-in-Some.result c.args.one (end_back ∙ is))),
    )

pub returns : goal.returns
returns g c =
    let s = c.args.dcel.now.shape in (
      λ no. absurd (false≢true no),
      λ joined. absurd (apart_here s c.args.one c.args.other (passes_end c.args.dcel.now c.args.one (λ k. end_of s k ≢ c.args.other) _ c.loop-near.invariant.0 c.in_default.ensures.steps.0.0) joined),
    )
