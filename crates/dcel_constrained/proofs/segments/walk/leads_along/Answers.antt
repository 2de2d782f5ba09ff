use Rattle.std.proofs.Common.{◌≡◌, ◌∙◌, refl, sym, pos, arith}
use Rattle.std.proofs.lemmas.Bool.Decides.{nat_tests}
use Rattle.std.proofs.lemmas.Int.{ints}
use Rattle.dcel_predicates.proofs.Machine.{in_128}
use Rattle.dcel_plane.specs.Plane.{point_at}
use Rattle.dcel_constrained.proofs.Opening.{along_by_sign, along_to_end, end_told}
use Rattle.dcel_constrained.proofs.Widths.{apart_named, offset_held}
use Rattle.dcel_constrained.proofs.segments.walk.leads_along.Goals as goal

pub returns-then-eq : goal.returns-then-eq
returns-then-eq g c =
    let m = c.args.dcel.now in
    let edge = c.directed_edge in
    let end = end_told m c.args.edge edge.result.dcel.now edge.result.number c.fix-end.result c.to.result.number edge.ensures.mesh edge.ensures.number c.to.ensures.number c.fix-end.ensures.value in
    (λ yes. along_to_end (point_at m) m.shape c.args.from c.args.to c.args.edge c.fix-end.result c.requires.out end (grind (arith, nat_tests, c.eq.ensures, c.if-eq.true)), λ along. refl)

pub returns : goal.returns
returns g c =
    let m = c.args.dcel.now in
    let at = point_at m in
    let edge = c.directed_edge in
    let end = end_told m c.args.edge edge.result.dcel.now edge.result.number c.fix-end.result c.to.result.number edge.ensures.mesh edge.ensures.number c.to.ensures.number c.fix-end.ensures.value in
    let on : in_128 c.offset_of.result ≡ pos 0 = omega (arith, ints, c.if-offset_of-ne0.false) in
    along_by_sign at m.shape c.args.from c.args.to c.args.edge c.fix-end.result c.requires.out end c.apart.result (grind (arith, nat_tests, c.eq.ensures, c.if-eq.false))
    (sym (offset_held c.offset_of.result (at c.args.from) (at c.args.to) (at c.fix-end.result) c.offset_of.ensures) ∙ on)
    (apart_named c.apart.result c.apart.ensures c.point_of.ensures c.point_of-2.ensures c.point_of-3.ensures)
