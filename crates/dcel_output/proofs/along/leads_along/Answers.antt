use Rattle.std.proofs.Common.{◌≡◌, ◌∙◌, ap, refl, sym, pos, arith}
use Rattle.std.proofs.lemmas.Bool.Decides.{nat_tests}
use Rattle.std.proofs.lemmas.Int.{ints}
use Rattle.std.proofs.lemmas.Option.{get_or_from_slice_get}
use Rattle.dcel_predicates.specs.declared.point.Point.{Point}
use Rattle.dcel_predicates.specs.Determinants.{orient2d_of}
use Rattle.dcel_predicates.proofs.Machine.{in_128}
use Rattle.dcel_plane.specs.Plane.{origin_point, point_at}
use Rattle.dcel_constrained.proofs.Opening.{along_by_sign, along_to_end, end_told}
use Rattle.dcel_constrained.proofs.Widths.{apart_named, offset_held}
use Rattle.dcel_output.proofs.along.leads_along.Goals as goal

pub returns-then-eq : goal.returns-then-eq
returns-then-eq g c =
    let m = c.args.mesh.now in
    let edge = c.directed_edge in
    let end = end_told m c.args.half edge.result.dcel.now edge.result.number c.fix-end.result c.to.result.number edge.ensures.mesh edge.ensures.number c.to.ensures.number c.fix-end.ensures.value in
    (λ yes. along_to_end (point_at m) m.shape c.args.from c.args.to c.args.half c.fix-end.result c.requires.out end (grind (arith, nat_tests, c.eq.ensures, c.if-eq.true)), λ along. refl)

pub returns : goal.returns
returns g c =
    let m = c.args.mesh.now in
    let at = point_at m in
    let edge = c.directed_edge in
    let end = end_told m c.args.half edge.result.dcel.now edge.result.number c.fix-end.result c.to.result.number edge.ensures.mesh edge.ensures.number c.to.ensures.number c.fix-end.ensures.value in
    let start = c.vertex_data-start.result.now in
    let far = c.vertex_data-goal.result.now in
    let there = c.vertex_data-there.result.now in
    let start_is : at c.args.from ≡ start = get_or_from_slice_get m.vertex_data c.args.from start origin_point c.vertex_data-start.ensures in
    let goal_is : at c.args.to ≡ far = get_or_from_slice_get m.vertex_data c.args.to far origin_point c.vertex_data-goal.ensures in
    let there_is : at c.fix-end.result ≡ there = get_or_from_slice_get m.vertex_data c.fix-end.result there origin_point c.vertex_data-there.ensures in
    let on : in_128 c.orient2d.result ≡ pos 0 = omega (arith, ints, c.if-orient2d-ne0.false) in
    let flat : orient2d_of start far there ≡ pos 0 = sym (offset_held c.orient2d.result start far there c.orient2d.ensures.value) ∙ on in
    along_by_sign at m.shape c.args.from c.args.to c.args.half c.fix-end.result c.requires.out end c.apart.result (grind (arith, nat_tests, c.eq.ensures, c.if-eq.false))
    (ap (λ (p : Point). orient2d_of p (at c.args.to) (at c.fix-end.result)) start_is ∙ ap (λ (p : Point). orient2d_of start p (at c.fix-end.result)) goal_is
    ∙ ap (orient2d_of start far) there_is ∙ flat)
    (apart_named c.apart.result c.apart.ensures (sym start_is) (sym goal_is) (sym there_is))
