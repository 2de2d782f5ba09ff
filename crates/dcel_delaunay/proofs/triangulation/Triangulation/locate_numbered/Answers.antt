use Rattle.std.proofs.Common.{◌∙◌, sym, subst}
use Rattle.dcel_planar.specs.Places.{IsPlace}
use Rattle.dcel_delaunay.specs.Bulk.{AnswersToo}
use Rattle.dcel_delaunay.specs.Triangulated.{mesh_in}
use Rattle.dcel_delaunay.proofs.Listed.{settled}
use Rattle.dcel_delaunay.proofs.Standing.{answers_none_too, answers_too}
use Rattle.dcel_delaunay.proofs.triangulation.Triangulation.locate_numbered.Goals as goal

pub locate-position-requires : goal.locate-position-requires
locate-position-requires g c = record { hull = (settled c.args.self.now.planar c.args.self.now.listed c.requires).hull }

pub returns-in_default : goal.returns-in_default
returns-in_default g c =
    answers_none_too (IsPlace (mesh_in c.args.self.now)) c.args.points.now c.args.positions.now.items c.args.number (sym c.point_of.ensures ∙ c.in_default.is)

pub returns : goal.returns
returns g c =
    let right = IsPlace (mesh_in c.args.self.now) in
    subst (AnswersToo right right c.args.points.now c.args.number c.args.positions.now.items) (sym c.note.ensures)
    (answers_too right right c.args.points.now c.args.positions.now.items c.args.number c.locate-position.result c.in-Some.point (sym c.point_of.ensures ∙ c.in-Some.is)
    (λ p a is. is) c.locate-position.ensures)
