use Rattle.std.proofs.Common.{◌≡◌, ◌∙◌, ap, sym, is_some, true, false}
use Rattle.delaunay.proofs.Ended.{five_ok}
use Rattle.delaunay.proofs.Written.{any_ok}
use Rattle.delaunay.proofs.ending.write_asked.Goals as goal

pub returns-then-adds_points : goal.returns-then-adds_points
returns-then-adds_points g c = any_ok c.refine.result _ (λ _ adds none.
    let no = c.adds_points.ensures adds.refine adds.splits in
    let yes = c.if-adds_points.true in absurd cc)

pub returns-then-is_some : goal.returns-then-is_some
returns-then-is_some g c = any_ok c.locate.result _ (λ _ adds none.
    let no : is_some c.args.arguments.now.locate ≡ false = ap is_some none in
    let yes : is_some c.args.arguments.now.locate ≡ true = sym c.is_some.ensures ∙ c.if-is_some.true in absurd cc)

pub returns : goal.returns
returns g c =
    five_ok c.answer.result
    (λ triangles nearest plain constrained inside adds none. record { triangles = triangles; nearest = nearest; plain = plain; constrained = constrained; inside = inside })
    c.answer.ensures.triangles c.answer.ensures.nearest c.answer.ensures.plain c.answer.ensures.constrained c.answer.ensures.inside
