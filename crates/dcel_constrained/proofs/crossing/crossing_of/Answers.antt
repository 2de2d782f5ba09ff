use Rattle.std.proofs.Common.{ℤ, ◌∙◌, ap, pos, ◌<ℤ◌, ◌-ℤ◌, subst, sym}
use Rattle.dcel_predicates.specs.Determinants.{orient2d_of}
use Rattle.dcel_predicates.specs.Wide.{number_of}
use Rattle.dcel_predicates.proofs.Machine.{in_128}
use Rattle.dcel_constrained.proofs.Intersected.{along_held, along_within, is_crossing, nearest_held, weight_above, weight_held, weight_within, x_plain, y_plain}
use Rattle.dcel_constrained.proofs.crossing.crossing_of.Goals as goal

pub nearest-requires-clause-before : goal.nearest-requires-clause-before
nearest-requires-clause-before c =
    weight_above c.orient2d-along.result c.orient2d.result c.orient2d-along.ensures.bound c.orient2d.ensures.bound
    (subst (λ (z : ℤ). z <ℤ pos 0) (sym c.orient2d.ensures.value) c.requires.far)

pub nearest-requires-clause-weight : goal.nearest-requires-clause-weight
nearest-requires-clause-weight c = weight_within c.orient2d-along.result c.orient2d.result c.orient2d-along.ensures.bound c.orient2d.ensures.bound

pub nearest-requires-2-clause-before : goal.nearest-requires-2-clause-before
nearest-requires-2-clause-before c =
    weight_above c.orient2d-along.result c.orient2d.result c.orient2d-along.ensures.bound c.orient2d.ensures.bound
    (subst (λ (z : ℤ). z <ℤ pos 0) (sym c.orient2d.ensures.value) c.requires.far)

pub nearest-requires-2-clause-weight : goal.nearest-requires-2-clause-weight
nearest-requires-2-clause-weight c = weight_within c.orient2d-along.result c.orient2d.result c.orient2d-along.ensures.bound c.orient2d.ensures.bound

pub returns : goal.returns
returns c =
    let o = c.orient2d-along in
    let p = c.orient2d in
    let a = c.args in
    let t = in_128 o.result in
    let w = in_128 (in_128 o.result -ℤ in_128 p.result) in
    is_crossing a.a a.b a.c a.d c.requires _ (weight_within o.result p.result o.ensures.bound p.ensures.bound)
    (along_within o.result p.result o.ensures.bound p.ensures.bound) (along_held o.result p.result o.ensures.bound p.ensures.bound ∙ o.ensures.value)
    (weight_held o.result p.result o.ensures.bound p.ensures.bound ∙ ap (λ (z : ℤ). z -ℤ p.result) o.ensures.value ∙ ap (λ (z : ℤ). orient2d_of a.c a.d a.a -ℤ z) p.ensures.value)
    (c.coordinate.ensures ∙ x_plain a.a a.b w t) (c.coordinate-2.ensures ∙ y_plain a.a a.b w t)
    (nearest_held c.nearest.result _ (number_of c.coordinate.result) w c.nearest.ensures.bound c.nearest.ensures.value c.coordinate.ensures)
    (nearest_held c.nearest-2.result _ (number_of c.coordinate-2.result) w c.nearest-2.ensures.bound c.nearest-2.ensures.value c.coordinate-2.ensures)
