use Rattle.std.proofs.Common.{◌≡◌, arith, sym, None}
use Rattle.spade_dcel.specs.Handles.{mesh_behind, number_of}
use Rattle.dcel_maps.specs.Shapes.{vertex_anchor}
use Rattle.dcel_maps.proofs.walks.Links.{half-below}
use Rattle.dcel_commands.proofs.OutEdges.{least_goes_on, least_is_found, least_out-some, no_anchor}
use Rattle.dcel_commands.proofs.request.out.least_out_edge.Goals as goal

pub returns-in_err-least-clause-least : goal.returns-in_err-least-clause-least
returns-in_err-least-clause-least g c =
    let none : None ≡ vertex_anchor (mesh_behind c.args.vertex) (number_of c.args.vertex) = rw (c.in_err-least.was) at c.out_edge.ensures.anchor in
    rw (c.from_residual.ensures) (sym (no_anchor (mesh_behind c.args.vertex) (number_of c.args.vertex) none c.out_edge.ensures.anchored))

pub loop-edge-preserved-then-index : goal.loop-edge-preserved-then-index
loop-edge-preserved-then-index g c =
    let next = least_goes_on _ _ _ _ _ _ _ c.loop-edge.invariant.seen c.in-Some.ensures.steps.0 in
    record { mesh = next.0; seen = next.2 (omega (arith, c.index.ensures.value, c.index-in-loop-edge.ensures.value, c.if-index.true)) }

pub loop-edge-preserved : goal.loop-edge-preserved
loop-edge-preserved g c =
    let next = least_goes_on _ _ _ _ _ _ _ c.loop-edge.invariant.seen c.in-Some.ensures.steps.0 in
    record { mesh = c.loop-edge.invariant.mesh; seen = next.3 (omega (arith, c.index.ensures.value, c.index-in-loop-edge.ensures.value, c.if-index.false)) }

pub returns-clause-least : goal.returns-clause-least
returns-clause-least g c =
    let shape = (mesh_behind c.args.vertex).shape in
    let v = number_of c.args.vertex in
    let h = number_of c.loop-edge.least in
    let seen = c.loop-edge.invariant.seen in
    sym (least_out-some shape v h (half-below shape h seen.stands.live) seen.stands (least_is_found _ _ _ _ seen c.in-None.ensures.steps.0.0))
