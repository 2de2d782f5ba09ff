use Rattle.std.proofs.Common.{◌≡◌, ◌≢◌, ◌<◌, ℕ, rules, subst, sym}
use Rattle.dcel_predicates.specs.declared.line.Side.TheVariants.{On}
use Rattle.dcel_maps.specs.Shapes.{IsLive, end_of, face_of, next_of, origin_of, prev_of}
use Rattle.dcel_maps.specs.Conditions.{IsTriangle}
use Rattle.dcel_plane.specs.Plane.{LiesInFace, point_at}
use Rattle.dcel_plane.specs.location.Locating.{LiesOn}
use Rattle.spade_dcel.specs.Handles.{number_of}
use Rattle.dcel_planar.specs.Places.{HasPoint}
use Rattle.dcel_planar.proofs.OnEdges.{at_apex, at_end, at_start, in_face, on_after, on_before, on_own}
use Rattle.dcel_planar.proofs.location.walk.place.Goals as goal

pub returns-in-true-true-default : goal.returns-in-true-true-default
returns-in-true-true-default g c = λ p sides.
    let m = c.args.dcel.now in
    let e = number_of c.args.edge in
    let own_on : c.args.own ≡ On = search rules in
    let after_on : c.args.after ≡ On = search rules in
    let is : c.fix.result ≡ end_of m.shape e = search (rules, c.fix.ensures.value, c.to.ensures.number, c.requires.mesh) in
    subst (λ (i : ℕ). HasPoint m p i) (sym is)
    (at_end m c.every_mesh.ensures c.requires.triangulated.triangles c.requires.triangulated.plane e c.requires.live c.requires.inner p c.args.own c.args.after c.args.before sides own_on after_on)

pub returns-in-true-default-true : goal.returns-in-true-default-true
returns-in-true-default-true g c = λ p sides.
    let m = c.args.dcel.now in
    let e = number_of c.args.edge in
    let own_on : c.args.own ≡ On = search rules in
    let before_on : c.args.before ≡ On = search rules in
    let is : c.fix-in-true-default-true.result ≡ origin_of m.shape e = search (rules, c.fix-in-true-default-true.ensures.value, c.from.ensures.number, c.requires.mesh) in
    subst (λ (i : ℕ). HasPoint m p i) (sym is)
    (at_start m c.every_mesh.ensures c.requires.triangulated.triangles c.requires.triangulated.plane e c.requires.live c.requires.inner p c.args.own c.args.after c.args.before sides own_on before_on)

pub returns-in_default-true-true : goal.returns-in_default-true-true
returns-in_default-true-true g c = λ p sides.
    let m = c.args.dcel.now in
    let e = number_of c.args.edge in
    let after_on : c.args.after ≡ On = search rules in
    let before_on : c.args.before ≡ On = search rules in
    let is : c.fix-in_default-true-true.result ≡ origin_of m.shape (prev_of m.shape e) = search (rules, c.fix-in_default-true-true.ensures.value, c.from-in_default-true-true.ensures.number, c.prev.ensures.number, c.prev.ensures.mesh, c.requires.mesh) in
    subst (λ (i : ℕ). HasPoint m p i) (sym is)
    (at_apex m c.every_mesh.ensures c.requires.triangulated.triangles c.requires.triangulated.plane e c.requires.live c.requires.inner p c.args.own c.args.after c.args.before sides after_on before_on)

pub returns-in-true-false-false : goal.returns-in-true-false-false
returns-in-true-false-false g c = λ p sides.
    let m = c.args.dcel.now in
    let e = number_of c.args.edge in
    let own_on : c.args.own ≡ On = search rules in
    let after_off : c.args.after ≢ On = search rules in
    let before_off : c.args.before ≢ On = search rules in
    let is : c.fix-in-true-false-false.result ≡ e = c.fix-in-true-false-false.ensures.value in
    subst (λ (i : ℕ). IsLive m.shape i × LiesOn (point_at m) m.shape p i) (sym is)
    (on_own m c.every_mesh.ensures c.requires.triangulated.triangles c.requires.triangulated.plane e c.requires.live c.requires.inner p c.args.own c.args.after c.args.before sides own_on after_off before_off)

pub returns-in-false-true-false : goal.returns-in-false-true-false
returns-in-false-true-false g c = λ p sides.
    let m = c.args.dcel.now in
    let e = number_of c.args.edge in
    let own_off : c.args.own ≢ On = search rules in
    let after_on : c.args.after ≡ On = search rules in
    let before_off : c.args.before ≢ On = search rules in
    let is : c.fix-in-false-true-false.result ≡ next_of m.shape e = search (rules, c.fix-in-false-true-false.ensures.value, c.next.ensures.number, c.requires.mesh) in
    subst (λ (i : ℕ). IsLive m.shape i × LiesOn (point_at m) m.shape p i) (sym is)
    (on_after m c.every_mesh.ensures c.requires.triangulated.triangles c.requires.triangulated.plane e c.requires.live c.requires.inner p c.args.own c.args.after c.args.before sides after_on before_off own_off)

pub returns-in-false-false-true : goal.returns-in-false-false-true
returns-in-false-false-true g c = λ p sides.
    let m = c.args.dcel.now in
    let e = number_of c.args.edge in
    let own_off : c.args.own ≢ On = search rules in
    let after_off : c.args.after ≢ On = search rules in
    let before_on : c.args.before ≡ On = search rules in
    let is : c.fix-in-false-false-true.result ≡ prev_of m.shape e = search (rules, c.fix-in-false-false-true.ensures.value, c.prev-in-false-false-true.ensures.number, c.requires.mesh) in
    subst (λ (i : ℕ). IsLive m.shape i × LiesOn (point_at m) m.shape p i) (sym is)
    (on_before m c.every_mesh.ensures c.requires.triangulated.triangles c.requires.triangulated.plane e c.requires.live c.requires.inner p c.args.own c.args.after c.args.before sides before_on own_off after_off)

pub returns-in-false-false-false : goal.returns-in-false-false-false
returns-in-false-false-false g c = λ p sides.
    let m = c.args.dcel.now in
    let e = number_of c.args.edge in
    let own_off : c.args.own ≢ On = search rules in
    let after_off : c.args.after ≢ On = search rules in
    let before_off : c.args.before ≢ On = search rules in
    let is : c.inner_face.result ≡ face_of m.shape e = search (rules, c.inner_face.ensures, c.requires.mesh) in
    subst (λ (i : ℕ). (0 < i) × IsTriangle m.shape i × LiesInFace (point_at m) m.shape i p) (sym is)
    (in_face m c.every_mesh.ensures c.requires.triangulated.triangles c.requires.triangulated.plane e c.requires.live c.requires.inner p c.args.own c.args.after c.args.before sides own_off after_off before_off)
