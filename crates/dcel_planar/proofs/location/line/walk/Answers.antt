use Rattle.std.proofs.Common.{◌≡◌, ◌∙◌, ◌+◌, ℕ, [], ap, arith, refl, rules, subst, sym}
use Rattle.dcel_fixed.specs.HalfEdges.{rev}
use Rattle.dcel_maps.specs.Conditions.{IsLineEnd}
use Rattle.dcel_maps.specs.Shapes.{IsLive, end_of, next_of}
use Rattle.dcel_plane.specs.Plane.{point_at}
use Rattle.dcel_plane.specs.location.Locating.{LiesBeyond}
use Rattle.spade_dcel.specs.Handles.{number_of}
use Rattle.dcel_planar.specs.Places.{IsOnLine}
use Rattle.dcel_planar.proofs.Along.{Passed, onward, passed_few, still_ahead}
use Rattle.dcel_planar.proofs.location.line.walk.Goals as goal

pub loop-step-init : goal.loop-step-init
loop-step-init g c = record {
  mesh = c.ahead-edge.ensures.mesh;
  live = c.ahead-edge.ensures.live;
  on = c.ahead-edge.ensures.on;
  not_behind = c.ahead-edge.ensures.not_behind;
  passed = ([], refl, refl);
}

pub loop-step-preserved : goal.loop-step-preserved
loop-step-preserved g c =
    let m = c.args.dcel.now in
    let h = number_of c.loop-step.edge in
    let p = c.args.point in
    let start = number_of c.ahead-edge.result in
    let inv = c.loop-step.invariant in
    let beyond : LiesBeyond (point_at m) m.shape p h = c.is_beyond.ensures.0 c.if-not-is_beyond.false in
    let not_end : ¬ IsLineEnd m.shape c.fix-end.result = search rules in
    let end : c.fix-end.result ≡ end_of m.shape h = search rules in
    let more : ¬ IsLineEnd m.shape (end_of m.shape h) = subst (λ (v : ℕ). ¬ IsLineEnd m.shape v) end not_end in
    let is : number_of c.next-edge.result ≡ next_of m.shape h = c.next-edge.ensures.number ∙ ap (λ n. next_of n.shape h) inv.mesh in
    let goes = still_ahead m c.every_mesh.ensures c.requires.flat.straight p h inv.live more beyond in
    record {
      mesh = c.next-edge.ensures.mesh ∙ inv.mesh;
      live = subst (IsLive m.shape) (sym is) goes.0;
      on = subst (IsOnLine m p) (sym is) goes.1;
      not_behind = subst (λ (i : ℕ). ¬ LiesBeyond (point_at m) m.shape p (rev i)) (sym is) goes.2;
      passed = subst (λ (i : ℕ). Passed m start i (c.loop-step._step + 1)) (sym is)
          (onward m c.every_mesh.ensures c.requires.flat.straight start h c.loop-step._step inv.live inv.passed more);
    }

pub unreachable-requires : goal.unreachable-requires
unreachable-requires g c =
    let m = c.args.dcel.now in
    let inv = c.loop-step.invariant in
    let few = passed_few m c.every_mesh.ensures c.requires.flat.straight (number_of c.ahead-edge.result) (number_of c.loop-step.edge) c.loop-step._step inv.live inv.passed in
    omega (arith, few, c.loop-step-test.false, c.num_directed_edges-step-end.ensures.count)
