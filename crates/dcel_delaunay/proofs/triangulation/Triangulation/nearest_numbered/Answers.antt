use Rattle.std.proofs.Common.{◌∙◌, sym, subst}
use Rattle.dcel_delaunay.specs.Bulk.{AnswersToo}
use Rattle.dcel_delaunay.specs.Triangulated.{IsNearestIn, mesh_in}
use Rattle.dcel_delaunay.proofs.Listed.{settled}
use Rattle.dcel_delaunay.proofs.Standing.{answers_none_too, answers_too, nearest_in}
use Rattle.dcel_delaunay.proofs.triangulation.Triangulation.nearest_numbered.Goals as goal

pub nearest-vertex-requires : goal.nearest-vertex-requires
nearest-vertex-requires g c = settled c.args.self.now.planar c.args.self.now.listed c.requires

pub returns-in_default : goal.returns-in_default
returns-in_default g c =
    answers_none_too (IsNearestIn (mesh_in c.args.self.now)) c.args.points.now c.args.vertices.now.items c.args.number (sym c.point_of.ensures ∙ c.in_default.is)

pub returns : goal.returns
returns g c =
    let right = IsNearestIn (mesh_in c.args.self.now) in
    let found = c.nearest-vertex.ensures in
    subst (AnswersToo right right c.args.points.now c.args.number c.args.vertices.now.items) (sym c.note.ensures)
    (answers_too right right c.args.points.now c.args.vertices.now.items c.args.number c.nearest-vertex.result c.in-Some.point (sym c.point_of.ensures ∙ c.in-Some.is)
    (λ p a is. is) (nearest_in (mesh_in c.args.self.now) c.in-Some.point c.nearest-vertex.result found.vertex found.nearest found.none))
