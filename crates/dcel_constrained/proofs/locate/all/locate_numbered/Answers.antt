use Rattle.std.proofs.Common.{◌∙◌, sym, subst}
use Rattle.dcel_planar.specs.Places.{IsPlace}
use Rattle.dcel_delaunay.specs.Bulk.{AnswersToo}
use Rattle.dcel_delaunay.proofs.Standing.{answers_none_too, answers_too}
use Rattle.dcel_constrained.proofs.locate.all.locate_numbered.Goals as goal

pub returns-in_default : goal.returns-in_default
returns-in_default g c =
    answers_none_too (IsPlace c.args.planar.now.dcel) c.args.points.now c.args.positions.now.items c.args.number (sym c.item_of.ensures ∙ c.in_default.is)

pub returns : goal.returns
returns g c =
    let right = IsPlace c.args.planar.now.dcel in
    subst (AnswersToo right right c.args.points.now c.args.number c.args.positions.now.items) (sym c.note.ensures)
    (answers_too right right c.args.points.now c.args.positions.now.items c.args.number c.locate-position.result c.in-Some.point (sym c.item_of.ensures ∙ c.in-Some.is)
    (λ p a is. is) c.locate-position.ensures)
