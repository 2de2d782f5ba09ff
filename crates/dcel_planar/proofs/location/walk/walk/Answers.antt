use Rattle.std.proofs.Common.{◌≡◌, ◌≢◌, ◌∙◌, ◌+◌, ℕ, [], arith, refl, rules, subst, sym, eq-zero-or-pos, inl, inr}
use Rattle.dcel_fixed.specs.HalfEdges.{rev}
use Rattle.dcel_maps.specs.Shapes.{IsLive, face_of}
use Rattle.spade_dcel.specs.Handles.{mesh_behind, number_of}
use Rattle.dcel_planar.specs.Places.{HasLeft}
use Rattle.dcel_planar.proofs.OnEdges.{told}
use Rattle.dcel_planar.proofs.Walking.{Comes, comes_few, crossed, stepped}
use Rattle.dcel_planar.proofs.location.walk.walk.Goals as goal

pub loop-step-init : goal.loop-step-init
loop-step-init g c = record {
  mesh = c.requires.mesh;
  live = c.requires.live;
  inner = c.requires.inner;
  own =
      told c.args.dcel.now c.every_mesh.ensures (mesh_behind c.args.start) c.args.point (number_of c.args.start) (number_of c.args.start) c.side-own.result
      c.requires.mesh refl c.side-own.ensures.lies;
  comes = ([], refl, refl);
}

pub returns-then-is_outer_edge-clause-place : goal.returns-then-is_outer_edge-clause-place
returns-then-is_outer_edge-clause-place g c =
    let m = c.args.dcel.now in
    let h = number_of c.in-Err.crossed in
    let p = c.args.point in
    let over = stepped m c.every_mesh.ensures c.requires.triangulated p h c.in-Err.ensures.beyond in
    let is : c.fix.result ≡ rev h = search rules in
    let outer : face_of m.shape c.fix.result ≡ 0 = search rules in
    (subst (IsLive m.shape) (sym is) over.0, outer, subst (HasLeft m p) (sym is) over.1)

pub loop-step-preserved : goal.loop-step-preserved
loop-step-preserved g c =
    let m = c.args.dcel.now in
    let h = number_of c.in-Err.crossed in
    let p = c.args.point in
    let inv = c.loop-step.invariant in
    let start = face_of m.shape (number_of c.args.start) in
    let over = stepped m c.every_mesh.ensures c.requires.triangulated p h c.in-Err.ensures.beyond in
    let is : number_of c.rev-edge.result ≡ rev h = c.rev-edge.ensures.number in
    let inner : face_of m.shape (number_of c.rev-edge.result) ≢ 0 = search rules in
    record {
      mesh = c.rev-edge.ensures.mesh ∙ c.in-Err.ensures.mesh;
      live = subst (IsLive m.shape) (sym is) over.0;
      inner = elim (eq-zero-or-pos (face_of m.shape (number_of c.rev-edge.result))) [ inl none ↦ absurd (inner none) | inr some ↦ some ];
      own = subst (HasLeft m p) (sym is) over.1;
      comes = subst (λ (i : ℕ). Comes m p start (face_of m.shape i) (c.loop-step.step + 1)) (sym is)
          (crossed m p start (face_of m.shape (number_of c.loop-step.edge)) h c.loop-step.step inv.comes c.in-Err.ensures.face c.in-Err.ensures.beyond);
    }

pub returns-clause-ends : goal.returns-clause-ends
returns-clause-ends g c = λ delaunay.
    let m = c.args.dcel.now in
    let inv = c.loop-step.invariant in
    let few =
    comes_few m c.every_mesh.ensures c.requires.triangulated delaunay c.args.point (face_of m.shape (number_of c.args.start)) (number_of c.loop-step.edge) c.loop-step.step
    inv.live inv.inner inv.comes in
    omega (arith, few, c.loop-step-test.false, c.num_faces-step-end.ensures.count)
