use Rattle.std.proofs.Common.{◌/◌, ◌<◌, ◌∙◌, ℕ, ap, refl, subst, sym}
use Rattle.std.proofs.lemmas.Bool.{false≢true}
use Rattle.spade_dcel.specs.Handles.{number_of}
use Rattle.dcel_maps.specs.Removals.{gives_up_edge}
use Rattle.dcel_maps.proofs.Liveness.{is_live-parts}
use Rattle.dcel_planar.specs.Legalization.{HasToStay}
use Rattle.dcel_planar.proofs.Searching.{search_begins, search_continues, search_ends}
use Rattle.dcel_delaunay.proofs.Staying.{told_stay}
use Rattle.dcel_delaunay.proofs.remove.has_constraint_at.Goals as goal

pub loop-edge-init : goal.loop-edge-init
loop-edge-init g c =
    let m = c.args.mesh.now.dcel in
    search_begins (λ h. HasToStay g.UE.EdgeConstraint.is_constraint m (h / 2)) m c.args.vertex _ _ _ c.vertex.ensures.mesh c.vertex.ensures.number c.out_edges-edges.ensures.items
    c.out_edges-edges.ensures.each

pub undirected_edge_data-requires : goal.undirected_edge_data-requires
undirected_edge_data-requires g c =
    let m = c.args.mesh.now.dcel in
    let came = search_continues (λ h. HasToStay g.UE.EdgeConstraint.is_constraint m (h / 2)) m c.args.vertex _ _ _ _ c.loop-edge.invariant c.in-Some.ensures.steps.0 in
    subst (λ (u : ℕ). u < m.shape.edges) (sym (c.as_undirected-edge.ensures ∙ ap (λ (h : ℕ). h / 2) c.fix.ensures.value))
    (is_live-parts (gives_up_edge m.shape.removal) m.shape.edges (number_of c.in-Some.edge / 2) came.1.starts.live).0

pub returns-then-is_constraint : goal.returns-then-is_constraint
returns-then-is_constraint g c =
    let m = c.args.mesh.now.dcel in
    let stays = g.UE.EdgeConstraint.is_constraint in
    let came = search_continues (λ h. HasToStay stays m (h / 2)) m c.args.vertex _ _ _ _ c.loop-edge.invariant c.in-Some.ensures.steps.0 in
    let told = told_stay stays m c.as_undirected-edge.result _ c.is_constraint.result c.undirected_edge_data.ensures c.is_constraint.ensures in
    let stay : HasToStay stays m (number_of c.in-Some.edge / 2) =
    subst (λ (u : ℕ). HasToStay stays m u) (c.as_undirected-edge.ensures ∙ ap (λ (h : ℕ). h / 2) c.fix.ensures.value) (told.0 c.if-is_constraint.true) in
    (λ yes. (number_of c.in-Some.edge, came.1.starts, stay), λ at. refl)

pub loop-edge-preserved : goal.loop-edge-preserved
loop-edge-preserved g c =
    let m = c.args.mesh.now.dcel in
    let stays = g.UE.EdgeConstraint.is_constraint in
    let came = search_continues (λ h. HasToStay stays m (h / 2)) m c.args.vertex _ _ _ _ c.loop-edge.invariant c.in-Some.ensures.steps.0 in
    let told = told_stay stays m c.as_undirected-edge.result _ c.is_constraint.result c.undirected_edge_data.ensures c.is_constraint.ensures in
    came.1.goes_on
    (λ stay.
    (let yes = told.1 (subst (λ (u : ℕ). HasToStay stays m u) (sym (c.as_undirected-edge.ensures ∙ ap (λ (h : ℕ). h / 2) c.fix.ensures.value)) stay) in
    let no = c.if-is_constraint.false in
    cc))

pub returns : goal.returns
returns g c =
    let m = c.args.mesh.now.dcel in
    let none = search_ends (λ h. HasToStay g.UE.EdgeConstraint.is_constraint m (h / 2)) m c.args.vertex _ c.loop-edge.invariant c.in_default.ensures.steps.0.0 in
    (λ no. absurd (false≢true no), λ at. absurd (none at.0 at.1 at.2))
