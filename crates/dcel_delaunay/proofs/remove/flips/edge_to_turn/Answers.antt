use Rattle.std.proofs.Common.{◌≡◌, ◌/◌, ◌∙◌, ℕ, ap, subst, sym, true}
use Rattle.dcel_maps.specs.Shapes.{edge_is_live}
use Rattle.spade_dcel.specs.Handles.{number_of}
use Rattle.dcel_plane.specs.Plane.{point_at}
use Rattle.dcel_plane.specs.removal.Wheels.{CanFlipInPlane}
use Rattle.dcel_planar.proofs.Searching.{search_begins, search_continues, search_ends}
use Rattle.dcel_delaunay.proofs.remove.flips.edge_to_turn.Goals as goal

pub loop-edge-init : goal.loop-edge-init
loop-edge-init g c =
    let m = c.args.dcel.now in
    search_begins (λ h. CanFlipInPlane (point_at m) m.shape (h / 2)) m c.args.vertex _ _ _ c.vertex.ensures.mesh c.vertex.ensures.number c.out_edges-edges.ensures.items
    c.out_edges-edges.ensures.each

pub can_turn-requires-clause-live : goal.can_turn-requires-clause-live
can_turn-requires-clause-live g c =
    let m = c.args.dcel.now in
    let came = search_continues (λ h. CanFlipInPlane (point_at m) m.shape (h / 2)) m c.args.vertex _ _ _ _ c.loop-edge.invariant c.in-Some.ensures.steps.0 in
    subst (λ (u : ℕ). edge_is_live m.shape u ≡ true) (sym (c.as_undirected-edge.ensures ∙ ap (λ (h : ℕ). h / 2) c.fix.ensures.value)) came.1.starts.live

pub returns-then-can_turn-clause-some : goal.returns-then-can_turn-clause-some
returns-then-can_turn-clause-some g c =
    let m = c.args.dcel.now in
    let came = search_continues (λ h. CanFlipInPlane (point_at m) m.shape (h / 2)) m c.args.vertex _ _ _ _ c.loop-edge.invariant c.in-Some.ensures.steps.0 in
    record {
      half = number_of c.in-Some.edge;
      out = came.1.starts;
      is = sym (c.as_undirected-edge.ensures ∙ ap (λ (h : ℕ). h / 2) c.fix.ensures.value);
      can = c.can_turn.ensures.0 c.if-can_turn.true;
    }

pub loop-edge-preserved : goal.loop-edge-preserved
loop-edge-preserved g c =
    let m = c.args.dcel.now in
    let came = search_continues (λ h. CanFlipInPlane (point_at m) m.shape (h / 2)) m c.args.vertex _ _ _ _ c.loop-edge.invariant c.in-Some.ensures.steps.0 in
    came.1.goes_on (λ turn. (let yes = c.can_turn.ensures.1 (rw (c.as_undirected-edge.ensures, c.fix.ensures.value) turn) in let no = c.if-can_turn.false in cc))

pub returns-clause-none : goal.returns-clause-none
returns-clause-none g c =
    let m = c.args.dcel.now in
    search_ends (λ h. CanFlipInPlane (point_at m) m.shape (h / 2)) m c.args.vertex _ c.loop-edge.invariant c.in_default.ensures.steps.0.0
