use Rattle.std.proofs.Common.{◌≡◌, ℕ, ap, ◌∙◌, inl, inr, refl, subst, sym}
use Rattle.spade_dcel.specs.Handles.{number_of}
use Rattle.dcel_maps.specs.Shapes.{Mesh, end_of, next_of}
use Rattle.dcel_maps.specs.Walking.{IsOutEdge}
use Rattle.dcel_plane.specs.Plane.{point_at}
use Rattle.dcel_planar.proofs.Searching.{search_begins, search_continues, search_ends}
use Rattle.dcel_constrained.proofs.Opening.{IsBeginning, begins_next, some_begins, vertices_of}
use Rattle.dcel_constrained.proofs.segments.walk.first_met.Goals as goal

next_told : {V DE UE F : Type 0} (n m : Mesh V DE UE F) (k x y : ℕ) → n ≡ m → y ≡ next_of n.shape k → x ≡ y → x ≡ next_of m.shape k
next_told {V} {DE} {UE} {F} n m k x y mesh next is = is ∙ next ∙ ap (λ (l : Mesh V DE UE F). next_of l.shape k) mesh

pub vertex-requires : goal.vertex-requires
vertex-requires g c = (vertices_of c.args.dcel.now c.requires.planar.mesh c.args.from c.args.to c.requires.ends).from

pub loop-edge-init : goal.loop-edge-init
loop-edge-init g c =
    let m = c.args.dcel.now in
    search_begins (IsBeginning (point_at m) m.shape c.args.from c.args.to) m c.args.from _ _ _ c.vertex.ensures.mesh c.vertex.ensures.number c.out_edges-edges.ensures.items
    c.out_edges-edges.ensures.each

pub leads_along-requires-clause-ends : goal.leads_along-requires-clause-ends
leads_along-requires-clause-ends g c = vertices_of c.args.dcel.now c.requires.planar.mesh c.args.from c.args.to c.requires.ends

pub leads_along-requires-clause-out : goal.leads_along-requires-clause-out
leads_along-requires-clause-out g c =
    let m = c.args.dcel.now in
    let came = search_continues (IsBeginning (point_at m) m.shape c.args.from c.args.to) m c.args.from _ _ _ _ c.loop-edge.invariant c.in-Some.ensures.steps.0 in
    subst (λ (k : ℕ). IsOutEdge m.shape c.args.from k) (sym c.fix-half.ensures.value) came.1.starts

pub opens-requires-clause-ends : goal.opens-requires-clause-ends
opens-requires-clause-ends g c = vertices_of c.args.dcel.now c.requires.planar.mesh c.args.from c.args.to c.requires.ends

pub opens-requires-clause-out : goal.opens-requires-clause-out
opens-requires-clause-out g c =
    let m = c.args.dcel.now in
    let came = search_continues (IsBeginning (point_at m) m.shape c.args.from c.args.to) m c.args.from _ _ _ _ c.loop-edge.invariant c.in-Some.ensures.steps.0 in
    subst (λ (k : ℕ). IsOutEdge m.shape c.args.from k) (sym c.fix-half.ensures.value) came.1.starts

pub returns-then-leads_along : goal.returns-then-leads_along
returns-then-leads_along g c =
    let m = c.args.dcel.now in
    let came = search_continues (IsBeginning (point_at m) m.shape c.args.from c.args.to) m c.args.from _ _ _ _ c.loop-edge.invariant c.in-Some.ensures.steps.0 in
    let end : end_of m.shape c.fix-half.result ≡ c.fix.result = rw (c.fix.ensures.value, c.to.ensures.number, c.fix-half.ensures.value, came.0) refl in
    (c.fix-half.result, c.leads_along.ensures.0 c.if-leads_along.true, end)

pub returns-then-opens : goal.returns-then-opens
returns-then-opens g c =
    let m = c.args.dcel.now in
    let came = search_continues (IsBeginning (point_at m) m.shape c.args.from c.args.to) m c.args.from _ _ _ _ c.loop-edge.invariant c.in-Some.ensures.steps.0 in
    let next : c.fix-then-opens.result ≡ next_of m.shape (number_of c.in-Some.edge) = next_told c.in-Some.edge.dcel.now m (number_of c.in-Some.edge) c.fix-then-opens.result c.next-then-opens.result.number came.0 c.next-then-opens.ensures.number c.fix-then-opens.ensures.value in
    begins_next m (point_at m) c.requires.planar c.args.from c.args.to c.requires.differ c.requires.ends (number_of c.in-Some.edge) c.fix-half.result c.fix-then-opens.result
    came.1.starts c.fix-half.ensures.value (c.opens.ensures.0 c.if-opens.true) next

pub loop-edge-preserved : goal.loop-edge-preserved
loop-edge-preserved g c =
    let m = c.args.dcel.now in
    let came = search_continues (IsBeginning (point_at m) m.shape c.args.from c.args.to) m c.args.from _ _ _ _ c.loop-edge.invariant c.in-Some.ensures.steps.0 in
    came.1.goes_on (λ has. elim has [
      | inl along ↦ (let yes = c.leads_along.ensures.1 (rw c.fix-half.ensures.value along) in let no = c.if-leads_along.false in cc)
      | inr opens ↦ (let yes = c.opens.ensures.1 (rw c.fix-half.ensures.value opens) in let no = c.if-opens.false in cc)
    ])

pub unreachable-requires : goal.unreachable-requires
unreachable-requires g c =
    let m = c.args.dcel.now in
    some_begins m (point_at m) c.requires.planar c.args.from c.args.to c.requires.differ c.requires.ends c.requires.inner
    (search_ends (IsBeginning (point_at m) m.shape c.args.from c.args.to) m c.args.from _ c.loop-edge.invariant c.in_default.ensures.steps.0.0)
