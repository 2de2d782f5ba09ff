use Rattle.std.proofs.Common.{◌≡◌, ℕ, ap, ◌∙◌, subst, sym}
use Rattle.dcel_fixed.proofs.Halves.{rev-rev}
use Rattle.dcel_fixed.specs.HalfEdges.{rev}
use Rattle.dcel_maps.specs.Shapes.{IsLive, end_of, map_of, origin_of}
use Rattle.dcel_maps.specs.Walking.{IsOutEdge, Leads}
use Rattle.dcel_maps.proofs.maps.Soundness.{rev_live}
use Rattle.dcel_planar.proofs.Searching.{search_continues, search_ends}
use Rattle.dcel_constrained.proofs.segments.edges.edge_between.Goals as goal

pub leads_to-requires : goal.leads_to-requires
leads_to-requires g c =
    let m = c.args.dcel.now in
    let came = search_continues (λ h. end_of m.shape h ≡ c.args.to) m c.args.from _ _ _ _ c.loop-edge.invariant.0 c.in-Some.ensures.steps.0 in
    subst (λ (k : ℕ). IsLive m.shape k) (sym c.fix-half.ensures.value) came.1.starts.live

pub returns-then-leads_to-clause-some : goal.returns-then-leads_to-clause-some
returns-then-leads_to-clause-some g c =
    let m = c.args.dcel.now in
    let came = search_continues (λ h. end_of m.shape h ≡ c.args.to) m c.args.from _ _ _ _ c.loop-edge.invariant.0 c.in-Some.ensures.steps.0 in
    let out = subst (λ (k : ℕ). IsOutEdge m.shape c.args.from k) (sym c.fix-half.ensures.value) came.1.starts in
    record { live = out.live; start = out.start; end = c.leads_to.ensures.0 c.if-leads_to.true }

pub returns-in_default-next-clause-none : goal.returns-in_default-next-clause-none
returns-in_default-next-clause-none g c = λ h leads.
    let m = c.args.dcel.now in
    search_ends (λ k. end_of m.shape k ≡ c.args.from) m c.args.to _ c.loop-edge.invariant.1 c.in_default-next.ensures.steps.0.0 (rev h)
    (record { live = rev_live (map_of m.shape) h leads.live; start = leads.end }) (ap (origin_of m.shape) (rev-rev h) ∙ leads.start)

pub leads_to-requires-in-Some : goal.leads_to-requires-in-Some
leads_to-requires-in-Some g c =
    let m = c.args.dcel.now in
    let came = search_continues (λ h. end_of m.shape h ≡ c.args.from) m c.args.to _ _ _ _ c.loop-edge.invariant.1 c.in-Some-next.ensures.steps.0 in
    subst (λ (k : ℕ). IsLive m.shape k) (sym c.fix-half-in-Some.ensures.value) came.1.starts.live

pub returns-then-leads_to-2-clause-some : goal.returns-then-leads_to-2-clause-some
returns-then-leads_to-2-clause-some g c =
    let m = c.args.dcel.now in
    let k = c.fix-half-in-Some.result in
    let came = search_continues (λ h. end_of m.shape h ≡ c.args.from) m c.args.to _ _ _ _ c.loop-edge.invariant.1 c.in-Some-next.ensures.steps.0 in
    let out = subst (λ (i : ℕ). IsOutEdge m.shape c.args.to i) (sym c.fix-half-in-Some.ensures.value) came.1.starts in
    subst (λ (i : ℕ). Leads m.shape c.args.from c.args.to i) (sym c.rev.ensures) (record {
      live = rev_live (map_of m.shape) k out.live;
      start = c.leads_to-in-Some.ensures.0 c.if-leads_to-2.true;
      end = ap (origin_of m.shape) (rev-rev k) ∙ out.start;
    })

pub loop-edge-preserved : goal.loop-edge-preserved
loop-edge-preserved g c =
    let m = c.args.dcel.now in
    let ahead = search_continues (λ h. end_of m.shape h ≡ c.args.to) m c.args.from _ _ _ _ c.loop-edge.invariant.0 c.in-Some.ensures.steps.0 in
    let back = search_continues (λ h. end_of m.shape h ≡ c.args.from) m c.args.to _ _ _ _ c.loop-edge.invariant.1 c.in-Some-next.ensures.steps.0 in (
      ahead.1.goes_on (λ has.
          (let so = c.leads_to.ensures.1 (subst (λ (k : ℕ). end_of m.shape k ≡ c.args.to) (sym c.fix-half.ensures.value) has) in let not = c.if-leads_to.false in cc)),
      back.1.goes_on (λ has.
          (let so = c.leads_to-in-Some.ensures.1 (subst (λ (k : ℕ). end_of m.shape k ≡ c.args.from) (sym c.fix-half-in-Some.ensures.value) has) in
          let not = c.if-leads_to-2.false in cc)),
    )

pub returns-clause-none : goal.returns-clause-none
returns-clause-none g c = λ h leads.
    let m = c.args.dcel.now in
    search_ends (λ k. end_of m.shape k ≡ c.args.to) m c.args.from _ c.loop-edge.invariant.0 c.in_default.ensures.steps.0.0 h
    (record { live = leads.live; start = leads.start }) leads.end
