use Rattle.std.proofs.Common.{ℕ, subst, sym}
use Rattle.dcel_maps.specs.Walking.{IsOutEdge}
use Rattle.dcel_planar.proofs.Searching.{search_begins, search_continues, search_ends}
use Rattle.dcel_output.specs.Outlining.{LeadsMarked}
use Rattle.dcel_output.proofs.along.marked_along.Goals as goal

pub loop-edge-init : goal.loop-edge-init
loop-edge-init g c =
    let m = c.args.mesh.now in
    search_begins (LeadsMarked m c.args.from c.args.to) m c.args.from _ _ _ c.vertex.ensures.mesh c.vertex.ensures.number c.out_edges-edges.ensures.items
    c.out_edges-edges.ensures.each

pub is_marked_along-requires-clause-out : goal.is_marked_along-requires-clause-out
is_marked_along-requires-clause-out g c =
    let m = c.args.mesh.now in
    let came = search_continues (LeadsMarked m c.args.from c.args.to) m c.args.from _ _ _ _ c.loop-edge.invariant c.in-Some.ensures.steps.0 in
    subst (λ (k : ℕ). IsOutEdge m.shape c.args.from k) (sym c.fix-half.ensures.value) came.1.starts

pub returns-then-is_marked_along-clause-some : goal.returns-then-is_marked_along-clause-some
returns-then-is_marked_along-clause-some g c = c.is_marked_along.ensures.0 c.if-is_marked_along.true

pub loop-edge-preserved : goal.loop-edge-preserved
loop-edge-preserved g c =
    let m = c.args.mesh.now in
    let came = search_continues (LeadsMarked m c.args.from c.args.to) m c.args.from _ _ _ _ c.loop-edge.invariant c.in-Some.ensures.steps.0 in
    came.1.goes_on (λ leads. (let yes = c.is_marked_along.ensures.1 (rw c.fix-half.ensures.value leads) in let no = c.if-is_marked_along.false in cc))

pub returns-clause-none : goal.returns-clause-none
returns-clause-none g c = λ none h leads.
    let m = c.args.mesh.now in
    search_ends (LeadsMarked m c.args.from c.args.to) m c.args.from _ c.loop-edge.invariant c.in_default.ensures.steps.0.0 h
    (record { live = leads.along.live; start = leads.along.from }) leads
