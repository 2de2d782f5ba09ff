use Rattle.std.proofs.Common.{◌≡◌, ◌∙◌, sym, pos, arith}
use Rattle.std.proofs.lemmas.Int.{ints}
use Rattle.dcel_predicates.proofs.Machine.{in_128}
use Rattle.dcel_plane.specs.Plane.{point_at}
use Rattle.dcel_constrained.proofs.Widths.{apart_named, apart_told, offset_held}
use Rattle.dcel_constrained.proofs.rejoin.lies_between.Goals as goal

pub returns-then-offset_of-ne0 : goal.returns-then-offset_of-ne0
returns-then-offset_of-ne0 g c =
    let at = point_at c.args.dcel.now in
    let held = offset_held c.offset_of.result (at c.args.from) (at c.args.to) (at c.args.vertex) c.offset_of.ensures in
    (λ yes. absurd (let no = yes in cc), λ lies. absurd (let e = held ∙ lies.on in omega (arith, ints, e, c.if-offset_of-ne0.true)))

pub returns : goal.returns
returns g c =
    let at = point_at c.args.dcel.now in
    let zero : in_128 c.offset_of.result ≡ pos 0 = omega (arith, ints, c.if-offset_of-ne0.false) in
    let on = sym (offset_held c.offset_of.result (at c.args.from) (at c.args.to) (at c.args.vertex) c.offset_of.ensures) ∙ zero in
    let told =
    apart_told c.apart.result (at c.args.from) (at c.args.to) (at c.args.vertex)
    (apart_named c.apart.result c.apart.ensures c.point_of.ensures c.point_of-2.ensures c.point_of-3.ensures) in
    (λ yes. record { on = on; inside = told.0 yes }, λ lies. told.1 lies.inside)
