use Rattle.std.proofs.Common.{◌≢◌, inl, inr, ℕ, subst, sym}
use Rattle.std.proofs.lemmas.Bool.{cases_eq}
use Rattle.dcel_maps.specs.Shapes.{IsLive}
use Rattle.dcel_maps.specs.Walking.{IsOutEdge}
use Rattle.dcel_planar.proofs.Searching.{search_begins, search_continues, search_ends}
use Rattle.dcel_constrained.specs.Rejoining.{LeadsPast}
use Rattle.dcel_constrained.proofs.rejoin.constraint_beside.Goals as goal

pub loop-edge-init : goal.loop-edge-init
loop-edge-init g c =
    let m = c.args.dcel.now in
    search_begins (LeadsPast m c.args.first c.args.second) m c.args.vertex _ _ _ c.vertex.ensures.mesh c.vertex.ensures.number c.out_edges-edges.ensures.items c.out_edges-edges.ensures.each

pub leads_past-requires : goal.leads_past-requires
leads_past-requires g c =
    let m = c.args.dcel.now in
    let came = search_continues (LeadsPast m c.args.first c.args.second) m c.args.vertex _ _ _ _ c.loop-edge.invariant c.in-Some.ensures.steps.0 in
    subst (λ (k : ℕ). IsLive m.shape k) (sym c.fix-half.ensures.value) came.1.starts.live

pub end_at-requires : goal.end_at-requires
end_at-requires g c =
    let m = c.args.dcel.now in
    let came = search_continues (LeadsPast m c.args.first c.args.second) m c.args.vertex _ _ _ _ c.loop-edge.invariant c.in-Some.ensures.steps.0 in
    subst (λ (k : ℕ). IsLive m.shape k) (sym c.fix-half.ensures.value) came.1.starts.live

pub returns-then-leads_past-clause-some : goal.returns-then-leads_past-clause-some
returns-then-leads_past-clause-some g c =
    let m = c.args.dcel.now in
    let came = search_continues (LeadsPast m c.args.first c.args.second) m c.args.vertex _ _ _ _ c.loop-edge.invariant c.in-Some.ensures.steps.0 in
    let out = subst (λ (k : ℕ). IsOutEdge m.shape c.args.vertex k) (sym c.fix-half.ensures.value) came.1.starts in
    let leads = c.leads_past.ensures.0 c.if-leads_past.true in (
      (c.fix-half.result, record { live = out.live; start = out.start; end = sym c.end_at.ensures }, leads.2),
      subst (λ (w : ℕ). w ≢ c.args.first) (sym c.end_at.ensures) leads.0,
      subst (λ (w : ℕ). w ≢ c.args.second) (sym c.end_at.ensures) leads.1,
    )

pub loop-edge-preserved : goal.loop-edge-preserved
loop-edge-preserved g c =
    let m = c.args.dcel.now in
    let came = search_continues (LeadsPast m c.args.first c.args.second) m c.args.vertex _ _ _ _ c.loop-edge.invariant c.in-Some.ensures.steps.0 in
    came.1.goes_on
    (λ has. (let so = c.leads_past.ensures.1 (subst (λ (k : ℕ). LeadsPast m c.args.first c.args.second k) (sym c.fix-half.ensures.value) has) in let not = c.if-leads_past.false in cc))

pub returns-clause-none : goal.returns-clause-none
returns-clause-none g c w are =
    let m = c.args.dcel.now in
    elim (cases_eq w c.args.first) [
      | inl is ↦ inl is
      | inr not_first ↦ elim (cases_eq w c.args.second) [
        | inl is ↦ inr is
        | inr not_second ↦
            absurd
            (search_ends (LeadsPast m c.args.first c.args.second) m c.args.vertex _ c.loop-edge.invariant c.in_default.ensures.steps.0.0 are.0
            (record { live = are.1.live; start = are.1.start })
            (subst (λ (i : ℕ). i ≢ c.args.first) (sym are.1.end) not_first, subst (λ (i : ℕ). i ≢ c.args.second) (sym are.1.end) not_second, are.2))
      ]
    ]
