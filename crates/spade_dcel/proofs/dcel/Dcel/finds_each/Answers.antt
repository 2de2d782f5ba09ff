use Rattle.std.proofs.Common.{refl}
use Rattle.std.proofs.lemmas.Bool.{both_ways, false≢true}
use Rattle.dcel_maps.proofs.removal.RingLists.{finding_continues, finding_ends}
use Rattle.spade_dcel.proofs.dcel.Dcel.finds_each.Goals as goal

pub returns-then-not-stands_near : goal.returns-then-not-stands_near
returns-then-not-stands_near g c =
    let came = finding_continues c.args.self.now c.args.vertex c.args.edges.now c.args.faces.now _ _ _ _ c.loop-out_edge.invariant c.in-Some.ensures.steps.0 in (
      λ is. absurd (false≢true is),
      λ finds. absurd (both_ways c.stands_near.result c.if-not-stands_near.true
          (c.stands_near.ensures.1 (rw (c.as_undirected.ensures, c.fix-out_edge.ensures.value) (came.1.wanted finds).0))),
    )

pub face_of_edge-requires : goal.face_of_edge-requires
face_of_edge-requires g c =
    let came = finding_continues c.args.self.now c.args.vertex c.args.edges.now c.args.faces.now _ _ _ _ c.loop-out_edge.invariant c.in-Some.ensures.steps.0 in
    rw c.fix-out_edge.ensures.value came.1.starts.live

pub returns-then-not-stands_near-2 : goal.returns-then-not-stands_near-2
returns-then-not-stands_near-2 g c =
    let came = finding_continues c.args.self.now c.args.vertex c.args.edges.now c.args.faces.now _ _ _ _ c.loop-out_edge.invariant c.in-Some.ensures.steps.0 in (
      λ is. absurd (false≢true is),
      λ finds. absurd (both_ways c.stands_near-in-loop-out_edge.result c.if-not-stands_near-2.true
          (c.stands_near-in-loop-out_edge.ensures.1
          (rw (c.adjust_inner_outer.ensures, c.face_of_edge.ensures.value, c.fix-out_edge.ensures.value) (came.1.wanted finds).1))),
    )

pub loop-out_edge-preserved : goal.loop-out_edge-preserved
loop-out_edge-preserved g c =
    let came = finding_continues c.args.self.now c.args.vertex c.args.edges.now c.args.faces.now _ _ _ _ c.loop-out_edge.invariant c.in-Some.ensures.steps.0 in
    let edge = rw (c.as_undirected.ensures, c.fix-out_edge.ensures.value) at (c.stands_near.ensures.0 c.if-not-stands_near.false) in
    let face = rw (c.adjust_inner_outer.ensures, c.face_of_edge.ensures.value, c.fix-out_edge.ensures.value) at (c.stands_near-in-loop-out_edge.ensures.0 c.if-not-stands_near-2.false) in
    came.1.goes_on (edge, face)

pub returns : goal.returns
returns g c = (
  λ is. finding_ends c.args.self.now c.args.vertex c.args.edges.now c.args.faces.now _ c.loop-out_edge.invariant c.in-None.ensures.steps.0.0,
  λ finds. refl,
)
