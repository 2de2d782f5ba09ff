use Rattle.std.proofs.Common.{◌≡◌, ◌≢◌, ◌∙◌, ◌<◌, ℕ, IfErr, ap, rules, subst, sym}
use Rattle.std.proofs.lemmas.Result.{IfErr-weaker}
use Rattle.dcel_maps.specs.Shapes.{IsLive, IsMesh, Mesh, face_of, next_of, prev_of}
use Rattle.dcel_predicates.specs.declared.point.Point.{Point}
use Rattle.dcel_predicates.specs.declared.line.Side.{Side}
use Rattle.dcel_predicates.specs.declared.line.Side.TheVariants.{Right}
use Rattle.spade_dcel.specs.Handles.{number_of}
use Rattle.dcel_planar.specs.Growing.{IsTriangleMesh}
use Rattle.dcel_planar.specs.Places.{LiesAt, LiesAtSides}
use Rattle.dcel_planar.proofs.OnEdges.{sides}
use Rattle.dcel_planar.proofs.location.walk.look.Goals as goal
use Rattle.dcel_planar.proofs.location.walk.look.Goals.{in-NextFirst+in_ok-after-in-NextFirst+in_ok-side_within-in-NextFirst, in-PrevFirst+in_ok-before-in-PrevFirst+in_ok-side_within-in-PrevFirst}

-- the other two half edges of a triangle are on its face
module _ {DE UE F : Type 0} (m : Mesh Point DE UE F) (mesh : IsMesh m) (sound : IsTriangleMesh m) (e : ℕ) (live : IsLive m.shape e) (inner : 0 < face_of m.shape e) (i : ℕ) where
  next_on : i ≡ next_of m.shape e → face_of m.shape i ≡ face_of m.shape e
  next_on is = subst (λ (j : ℕ). face_of m.shape j ≡ face_of m.shape e) (sym is) (sides m mesh sound.triangles sound.plane e live inner).face_y

  prev_on : i ≡ prev_of m.shape e → face_of m.shape i ≡ face_of m.shape e
  prev_on is = subst (λ (j : ℕ). face_of m.shape j ≡ face_of m.shape e) (sym is) (sides m mesh sound.triangles sound.plane e live inner).face_z

pub side_within-requires-clause-inner : goal.side_within-requires-clause-inner
side_within-requires-clause-inner g c =
    let m = c.args.dcel.now in
    let e = number_of c.args.edge in
    let on : face_of m.shape (number_of c.next-next.result) ≡ face_of m.shape e =
    next_on m c.every_mesh.ensures c.requires.triangulated e c.requires.live c.requires.inner (number_of c.next-next.result)
    (c.next-next.ensures.number ∙ ap (λ n. next_of n.shape e) c.requires.mesh) in
    subst (λ (f : ℕ). 0 < f) (sym on) c.requires.inner

pub side_within-requires-in-NextFirst-clause-inner : goal.side_within-requires-in-NextFirst-clause-inner
side_within-requires-in-NextFirst-clause-inner g c =
    let m = c.args.dcel.now in
    let e = number_of c.args.edge in
    let on : face_of m.shape (number_of c.prev-prev.result) ≡ face_of m.shape e =
    prev_on m c.every_mesh.ensures c.requires.triangulated e c.requires.live c.requires.inner (number_of c.prev-prev.result)
    (c.prev-prev.ensures.number ∙ ap (λ n. prev_of n.shape e) c.requires.mesh) in
    subst (λ (f : ℕ). 0 < f) (sym on) c.requires.inner

pub side_within-requires-in-PrevFirst-clause-inner : goal.side_within-requires-in-PrevFirst-clause-inner
side_within-requires-in-PrevFirst-clause-inner g c =
    let m = c.args.dcel.now in
    let e = number_of c.args.edge in
    let on : face_of m.shape (number_of c.prev-prev.result) ≡ face_of m.shape e =
    prev_on m c.every_mesh.ensures c.requires.triangulated e c.requires.live c.requires.inner (number_of c.prev-prev.result)
    (c.prev-prev.ensures.number ∙ ap (λ n. prev_of n.shape e) c.requires.mesh) in
    subst (λ (f : ℕ). 0 < f) (sym on) c.requires.inner

pub side_within-requires-in-PrevFirst-2-clause-inner : goal.side_within-requires-in-PrevFirst-2-clause-inner
side_within-requires-in-PrevFirst-2-clause-inner g c =
    let m = c.args.dcel.now in
    let e = number_of c.args.edge in
    let on : face_of m.shape (number_of c.next-next.result) ≡ face_of m.shape e =
    next_on m c.every_mesh.ensures c.requires.triangulated e c.requires.live c.requires.inner (number_of c.next-next.result)
    (c.next-next.ensures.number ∙ ap (λ n. next_of n.shape e) c.requires.mesh) in
    subst (λ (f : ℕ). 0 < f) (sym on) c.requires.inner

pub returns-in_err-after-in-NextFirst-clause-face : goal.returns-in_err-after-in-NextFirst-clause-face
returns-in_err-after-in-NextFirst-clause-face g c =
    let m = c.args.dcel.now in
    let e = number_of c.args.edge in
    let on : face_of m.shape (number_of c.next-next.result) ≡ face_of m.shape e =
    next_on m c.every_mesh.ensures c.requires.triangulated e c.requires.live c.requires.inner (number_of c.next-next.result)
    (c.next-next.ensures.number ∙ ap (λ n. next_of n.shape e) c.requires.mesh) in
    let same : IfErr c.from_residual.result (λ crossed. number_of crossed ≡ number_of c.next-next.result) = search rules in
    IfErr-weaker c.from_residual.result _ _ (λ crossed is. ap (face_of m.shape) is ∙ on) same

pub returns-in_err-side_within-in-NextFirst-clause-face : goal.returns-in_err-side_within-in-NextFirst-clause-face
returns-in_err-side_within-in-NextFirst-clause-face g c =
    let m = c.args.dcel.now in
    let e = number_of c.args.edge in
    let on : face_of m.shape (number_of c.prev-prev.result) ≡ face_of m.shape e =
    prev_on m c.every_mesh.ensures c.requires.triangulated e c.requires.live c.requires.inner (number_of c.prev-prev.result)
    (c.prev-prev.ensures.number ∙ ap (λ n. prev_of n.shape e) c.requires.mesh) in
    let same : IfErr c.from_residual-in_err-side_within-in-NextFirst.result (λ crossed. number_of crossed ≡ number_of c.prev-prev.result) = search rules in
    IfErr-weaker c.from_residual-in_err-side_within-in-NextFirst.result _ _ (λ crossed is. ap (face_of m.shape) is ∙ on) same

pub returns-in_err-before-in-PrevFirst-clause-face : goal.returns-in_err-before-in-PrevFirst-clause-face
returns-in_err-before-in-PrevFirst-clause-face g c =
    let m = c.args.dcel.now in
    let e = number_of c.args.edge in
    let on : face_of m.shape (number_of c.prev-prev.result) ≡ face_of m.shape e =
    prev_on m c.every_mesh.ensures c.requires.triangulated e c.requires.live c.requires.inner (number_of c.prev-prev.result)
    (c.prev-prev.ensures.number ∙ ap (λ n. prev_of n.shape e) c.requires.mesh) in
    let same : IfErr c.from_residual-in_err-before-in-PrevFirst.result (λ crossed. number_of crossed ≡ number_of c.prev-prev.result) = search rules in
    IfErr-weaker c.from_residual-in_err-before-in-PrevFirst.result _ _ (λ crossed is. ap (face_of m.shape) is ∙ on) same

pub returns-in_err-side_within-in-PrevFirst-clause-face : goal.returns-in_err-side_within-in-PrevFirst-clause-face
returns-in_err-side_within-in-PrevFirst-clause-face g c =
    let m = c.args.dcel.now in
    let e = number_of c.args.edge in
    let on : face_of m.shape (number_of c.next-next.result) ≡ face_of m.shape e =
    next_on m c.every_mesh.ensures c.requires.triangulated e c.requires.live c.requires.inner (number_of c.next-next.result)
    (c.next-next.ensures.number ∙ ap (λ n. next_of n.shape e) c.requires.mesh) in
    let same : IfErr c.from_residual-in_err-side_within-in-PrevFirst.result (λ crossed. number_of crossed ≡ number_of c.next-next.result) = search rules in
    IfErr-weaker c.from_residual-in_err-side_within-in-PrevFirst.result _ _ (λ crossed is. ap (face_of m.shape) is ∙ on) same

pub returns-clause-found : goal.returns-clause-found
returns-clause-found g c =
    let m = c.args.dcel.now in
    let e = number_of c.args.edge in
    let p = c.args.point in
    let own : c.args.own ≢ Right = search rules in
    let next : number_of c.next-next.result ≡ next_of m.shape e = c.next-next.ensures.number ∙ ap (λ n. next_of n.shape e) c.requires.mesh in
    let prev : number_of c.prev-prev.result ≡ prev_of m.shape e = c.prev-prev.ensures.number ∙ ap (λ n. prev_of n.shape e) c.requires.mesh in
    let at : (after before : Side) → LiesAt m p (number_of c.next-next.result) after → after ≢ Right → LiesAt m p (number_of c.prev-prev.result) before → before ≢ Right
    → LiesAtSides m p e c.args.own after before =
    λ after before after_lies after_not before_lies before_not. record {
      own_side = c.requires.own;
      after_side = subst (λ (i : ℕ). LiesAt m p i after) next after_lies;
      before_side = subst (λ (i : ℕ). LiesAt m p i before) prev before_lies;
      not_own = own;
      not_after = after_not;
      not_before = before_not;
    } in
    c.place.ensures p (elim c.match-order.branch [
      | in-NextFirst+in_ok-after-in-NextFirst+in_ok-side_within-in-NextFirst w ↦
          subst (λ (both : Side × Side). LiesAtSides m p e c.args.own both.0 both.1) (sym w.after-is)
          (at _ _ w.in_ok-after-in-NextFirst.ensures.lies w.in_ok-after-in-NextFirst.ensures.within
          w.in_ok-side_within-in-NextFirst.ensures.lies w.in_ok-side_within-in-NextFirst.ensures.within)
      | in-PrevFirst+in_ok-before-in-PrevFirst+in_ok-side_within-in-PrevFirst w ↦
          subst (λ (both : Side × Side). LiesAtSides m p e c.args.own both.0 both.1) (sym w.after-is)
          (at _ _ w.in_ok-side_within-in-PrevFirst.ensures.lies w.in_ok-side_within-in-PrevFirst.ensures.within
          w.in_ok-before-in-PrevFirst.ensures.lies w.in_ok-before-in-PrevFirst.ensures.within)
    ])
