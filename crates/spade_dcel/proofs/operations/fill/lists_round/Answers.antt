use Rattle.std.proofs.Common.{◌/◌}
use Rattle.dcel_maps.specs.Shapes.{face_of}
use Rattle.spade_dcel.proofs.Gathering.{round_comes, round_ends}
use Rattle.spade_dcel.proofs.operations.fill.lists_round.Goals as goal

pub face_of_edge-requires : goal.face_of_edge-requires
face_of_edge-requires g c =
    rw c.fix-out_edge.ensures.value
    (round_comes c.args.dcel.now _ c.args.vertex (face_of c.args.dcel.now.shape) _ _ _ _ c.loop-out_edge.invariant.faces c.in-Some.ensures.steps.0).live

pub loop-out_edge-preserved : goal.loop-out_edge-preserved
loop-out_edge-preserved g c = record {
  edges =
      rw (c.in_ok-push.ensures.items, c.as_undirected.ensures, c.fix-out_edge.ensures.value)
      (round_comes c.args.dcel.now _ c.args.vertex (λ h. h / 2) _ _ _ _ c.loop-out_edge.invariant.edges c.in-Some.ensures.steps.0).goes_on;
  faces =
      rw (c.in_ok-push-2.ensures.items, c.adjust_inner_outer.ensures, c.face_of_edge.ensures.value, c.fix-out_edge.ensures.value)
      (round_comes c.args.dcel.now _ c.args.vertex (face_of c.args.dcel.now.shape) _ _ _ _ c.loop-out_edge.invariant.faces c.in-Some.ensures.steps.0).goes_on;
}

pub returns-clause-edges : goal.returns-clause-edges
returns-clause-edges g c = round_ends c.args.dcel.now c.args.vertex (λ h. h / 2) _ _ c.loop-out_edge.invariant.edges c.in-None.ensures.steps.0.0

pub returns-clause-faces : goal.returns-clause-faces
returns-clause-faces g c = round_ends c.args.dcel.now c.args.vertex (face_of c.args.dcel.now.shape) _ _ c.loop-out_edge.invariant.faces c.in-None.ensures.steps.0.0
