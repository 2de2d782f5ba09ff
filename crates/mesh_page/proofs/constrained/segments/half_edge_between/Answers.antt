use Rattle.std.proofs.Common.{◌≡◌, ℕ, ◌/◌, arith, subst, sym}
use Rattle.dcel_maps.specs.Shapes.{IsLive, Mesh, end_of}
use Rattle.dcel_maps.specs.Walking.{IsOutEdge}
use Rattle.dcel_maps.proofs.shapes.Maps.{map-sound}
use Rattle.dcel_planar.proofs.Searching.{search_begins, search_continues, search_ends}
use Rattle.dcel_regions.specs.Marked.{IsMarked}
use Rattle.dcel_regions.specs.declared.mark.Mark.{Mark}
use Rattle.mesh_page.proofs.constrained.segments.half_edge_between.Goals as goal

-- a half edge of a marked edge leads to the vertex w
abbrev LeadsMarked : {V DE F : Type 0} → Mesh V DE Mark F → ℕ → ℕ → Type 0
LeadsMarked m w h = (end_of m.shape h ≡ w) × IsMarked m (h / 2)

pub returns-then-index-num_vertices-clause-none : goal.returns-then-index-num_vertices-clause-none
returns-then-index-num_vertices-clause-none g c = λ found.
    let below = (map-sound c.every_mesh.ensures.sound).below_vertices found.0 found.1.live in
    let start = found.1.start in
    omega (arith, below, start, c.index.ensures, c.num_vertices.ensures.count, c.if-index-num_vertices.true)

pub loop-edge-init : goal.loop-edge-init
loop-edge-init g c =
    let m = c.args.mesh.now in
    search_begins (LeadsMarked m c.args.to) m c.args.from _ _ _ c.vertex.ensures.mesh c.vertex.ensures.number c.out_edges-edges.ensures.items c.out_edges-edges.ensures.each

pub is_marked_to-requires : goal.is_marked_to-requires
is_marked_to-requires g c =
    let m = c.args.mesh.now in
    let came = search_continues (LeadsMarked m c.args.to) m c.args.from _ _ _ _ c.loop-edge.invariant c.in-Some.ensures.steps.0 in
    subst (λ (k : ℕ). IsLive m.shape k) (sym c.fix-half.ensures.value) came.1.starts.live

pub returns-then-is_marked_to-clause-some : goal.returns-then-is_marked_to-clause-some
returns-then-is_marked_to-clause-some g c =
    let m = c.args.mesh.now in
    let came = search_continues (LeadsMarked m c.args.to) m c.args.from _ _ _ _ c.loop-edge.invariant c.in-Some.ensures.steps.0 in
    let out = subst (λ (k : ℕ). IsOutEdge m.shape c.args.from k) (sym c.fix-half.ensures.value) came.1.starts in
    let leads = c.is_marked_to.ensures.0 c.if-is_marked_to.true in
    (record { live = out.live; start = out.start; end = leads.0 }, leads.1)

pub loop-edge-preserved : goal.loop-edge-preserved
loop-edge-preserved g c =
    let m = c.args.mesh.now in
    let came = search_continues (LeadsMarked m c.args.to) m c.args.from _ _ _ _ c.loop-edge.invariant c.in-Some.ensures.steps.0 in
    came.1.goes_on
    (λ has. (let so = c.is_marked_to.ensures.1 (subst (λ (k : ℕ). LeadsMarked m c.args.to k) (sym c.fix-half.ensures.value) has) in let not = c.if-is_marked_to.false in cc))

pub returns-clause-none : goal.returns-clause-none
returns-clause-none g c = λ found.
    let m = c.args.mesh.now in
    search_ends (LeadsMarked m c.args.to) m c.args.from _ c.loop-edge.invariant c.in_default.ensures.steps.0.0 found.0
    (record { live = found.1.live; start = found.1.start }) (found.1.end, found.2)
