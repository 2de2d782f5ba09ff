use Rattle.std.proofs.Common.{◌≡◌, ◌∙◌}
use Rattle.dcel_predicates.specs.declared.circle.CircleSide.TheVariants.{Inside, On, Outside}
use Rattle.dcel_predicates.specs.Wide.{number_of}
use Rattle.dcel_predicates.specs.Determinants.{incircle_of}
use Rattle.dcel_predicates.proofs.circle.circle_side.Goals as goal
use Rattle.dcel_predicates.proofs.Sides.{seen_from, inside_held, outside_held, on_held, outside_is}

pub returns-then-are_short-clause-inside : goal.returns-then-are_short-clause-inside
returns-then-are_short-clause-inside c =
    let a = c.args in
    let p = c.between-p in
    let q = c.between-q in
    let r = c.between-r in
    let found = c.short_determinant in
    inside_held (c.short_side.result ≡ Inside) found.result (incircle_of a.a a.b a.c a.d) found.ensures.bound
    (found.ensures.value ∙ seen_from a.a a.b a.c a.d p.result.x p.result.y q.result.x q.result.y r.result.x r.result.y p.ensures.x p.ensures.y q.ensures.x q.ensures.y r.ensures.x r.ensures.y)
    c.short_side.ensures.inside

pub returns-then-are_short-clause-outside : goal.returns-then-are_short-clause-outside
returns-then-are_short-clause-outside c =
    let a = c.args in
    let p = c.between-p in
    let q = c.between-q in
    let r = c.between-r in
    let found = c.short_determinant in
    outside_held (c.short_side.result ≡ Outside) found.result (incircle_of a.a a.b a.c a.d) found.ensures.bound
    (found.ensures.value ∙ seen_from a.a a.b a.c a.d p.result.x p.result.y q.result.x q.result.y r.result.x r.result.y p.ensures.x p.ensures.y q.ensures.x q.ensures.y r.ensures.x r.ensures.y)
    c.short_side.ensures.outside

pub returns-then-are_short-clause-on : goal.returns-then-are_short-clause-on
returns-then-are_short-clause-on c =
    let a = c.args in
    let p = c.between-p in
    let q = c.between-q in
    let r = c.between-r in
    let found = c.short_determinant in
    on_held (c.short_side.result ≡ On) found.result (incircle_of a.a a.b a.c a.d) found.ensures.bound
    (found.ensures.value ∙ seen_from a.a a.b a.c a.d p.result.x p.result.y q.result.x q.result.y r.result.x r.result.y p.ensures.x p.ensures.y q.ensures.x q.ensures.y r.ensures.x r.ensures.y)
    c.short_side.ensures.on

pub returns-else-are_short-clause-outside : goal.returns-else-are_short-clause-outside
returns-else-are_short-clause-outside c =
    let a = c.args in
    let p = c.between-p in
    let q = c.between-q in
    let r = c.between-r in
    outside_is (c.wide_side.result ≡ Outside) (number_of c.determinant.result) (incircle_of a.a a.b a.c a.d)
    (c.determinant.ensures ∙ seen_from a.a a.b a.c a.d p.result.x p.result.y q.result.x q.result.y r.result.x r.result.y p.ensures.x p.ensures.y q.ensures.x q.ensures.y r.ensures.x r.ensures.y)
    c.wide_side.ensures.outside
