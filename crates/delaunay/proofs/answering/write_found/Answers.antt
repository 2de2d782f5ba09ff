use Rattle.std.proofs.Common.{None, ap, option_copied}
use Rattle.std.proofs.lemmas.Result.{on_ok_weaker}
use Rattle.dcel_delaunay.proofs.listing.Known.{Points}
use Rattle.dcel_output.specs.Lines.{lines_of, nearest_line}
use Rattle.delaunay.proofs.Written.{any_ok, seen}
use Rattle.delaunay.proofs.answering.write_found.Goals as goal

pub returns-then-has_constraints-clause-plain : goal.returns-then-has_constraints-clause-plain
returns-then-has_constraints-clause-plain g c = any_ok c.answer_constrained.result _ (λ _ plain.
    let none = c.has_constraints.ensures.none plain.constraints plain.outline in
    let some = c.if-has_constraints.true in absurd cc)

pub returns-clause-plain : goal.returns-clause-plain
returns-clause-plain g c =
    let m : Points = c.args.drawn.triangulation.planar.dcel in
    let view = c.view.result in
    on_ok_weaker c.write_drawn.result
    (λ text plain. seen _ _ (lines_of nearest_line c.args.nearest.now) c.args.arguments.now.output view.mesh.now m view.numbers.now c.args.drawn.names.numbers.items
    (option_copied view.inside) None c.view.ensures.mesh c.view.ensures.numbers (ap option_copied c.view.ensures.all) text)
    c.write_drawn.ensures

pub returns-then-has_constraints-clause-constrained : goal.returns-then-has_constraints-clause-constrained
returns-then-has_constraints-clause-constrained g c = c.answer_constrained.ensures.constrained

pub returns-then-has_constraints-clause-inside : goal.returns-then-has_constraints-clause-inside
returns-then-has_constraints-clause-inside g c = c.answer_constrained.ensures.inside

pub returns-clause-constrained : goal.returns-clause-constrained
returns-clause-constrained g c = any_ok c.write_drawn.result _ (λ _ output asks.
    let neither = c.has_constraints.ensures.some c.if-has_constraints.false in
    absurd (asks.constraints neither.0))

pub returns-clause-inside : goal.returns-clause-inside
returns-clause-inside g c = any_ok c.write_drawn.result _ (λ _ output asks.
    let neither = c.has_constraints.ensures.some c.if-has_constraints.false in
    absurd (asks.outline neither.1))
