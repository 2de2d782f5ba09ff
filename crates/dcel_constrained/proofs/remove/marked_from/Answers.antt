use Rattle.std.proofs.Common.{◌/◌, ℕ, subst, sym}
use Rattle.dcel_maps.specs.Shapes.{origin_of}
use Rattle.dcel_maps.specs.Walking.{IsOutEdge}
use Rattle.dcel_planar.proofs.Searching.{search_continues, search_ends}
use Rattle.dcel_regions.specs.Marked.{IsMarked}
use Rattle.dcel_constrained.proofs.Freed.{round_told}
use Rattle.dcel_constrained.proofs.remove.marked_from.Goals as goal

pub loop-edge-init : goal.loop-edge-init
loop-edge-init g c =
    let m = c.args.dcel.now in
    round_told (λ h. IsMarked m (h / 2)) m c.every_mesh.ensures c.args.half c.requires c.directed_edge.result.dcel.now c.directed_edge.result.number c.new-edges.result.items
    c.directed_edge.ensures.mesh c.directed_edge.ensures.number c.new-edges.ensures.items

pub returns-then-is_marked-clause-some : goal.returns-then-is_marked-clause-some
returns-then-is_marked-clause-some g c =
    let m = c.args.dcel.now in
    let came = search_continues (λ h. IsMarked m (h / 2)) m (origin_of m.shape c.args.half) _ _ _ _ c.loop-edge.invariant c.in-Some.ensures.steps.0 in (
      subst (λ (k : ℕ). IsOutEdge m.shape (origin_of m.shape c.args.half) k) (sym c.fix-half.ensures.value) came.1.starts,
      subst (λ (u : ℕ). IsMarked m u) c.as_undirected.ensures (c.is_marked.ensures.0 c.if-is_marked.true),
    )

pub loop-edge-preserved : goal.loop-edge-preserved
loop-edge-preserved g c =
    let m = c.args.dcel.now in
    let came = search_continues (λ h. IsMarked m (h / 2)) m (origin_of m.shape c.args.half) _ _ _ _ c.loop-edge.invariant c.in-Some.ensures.steps.0 in
    came.1.goes_on (λ marked. (let does = c.is_marked.ensures.1 (rw (c.as_undirected.ensures, c.fix-half.ensures.value) marked) in let not = c.if-is_marked.false in cc))

pub returns-clause-none : goal.returns-clause-none
returns-clause-none g c =
    let m = c.args.dcel.now in
    search_ends (λ h. IsMarked m (h / 2)) m (origin_of m.shape c.args.half) _ c.loop-edge.invariant c.in_default.ensures.steps.0.0
