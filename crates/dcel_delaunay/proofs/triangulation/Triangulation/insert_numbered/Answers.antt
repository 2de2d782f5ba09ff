use Rattle.std.proofs.Common.{sym, subst, ◌∙◌}
use Rattle.std.proofs.lemmas.Result.{err_from_is_err_and}
use Rattle.dcel_delaunay.proofs.Standing.{adds_one, answers_none_too, failed_adds, failed_all, stands_too}
use Rattle.dcel_delaunay.specs.Bulk.{StandsToo}
use Rattle.dcel_delaunay.specs.Triangulated.{mesh_in}
use Rattle.dcel_planar.specs.Places.{HasPoint}
use Rattle.dcel_delaunay.proofs.triangulation.Triangulation.insert_numbered.Goals as goal

pub returns-in_ok-vertex-clause-stands : goal.returns-in_ok-vertex-clause-stands
returns-in_ok-vertex-clause-stands g c =
    let old = mesh_in c.args.self.now in
    let new = mesh_in c.insert_from.new.self in
    let takes = c.in_ok-vertex.ensures.inserts in
    let at = sym c.requires.given ∙ c.in-Some.is in
    subst (StandsToo old new c.args.points.now c.args.number c.args.vertices.now.items) (sym c.note.ensures)
    (stands_too old new c.args.points.now c.args.vertices.now.items c.args.number _ c.in-Some.point 1 at
    (adds_one old new c.args.points.now c.args.number c.in-Some.point at takes.points) takes.has)

pub returns-in_ok-vertex-clause-adds : goal.returns-in_ok-vertex-clause-adds
returns-in_ok-vertex-clause-adds g c =
    adds_one (mesh_in c.args.self.now) (mesh_in c.insert_from.new.self) c.args.points.now c.args.number c.in-Some.point (sym c.requires.given ∙ c.in-Some.is)
    c.in_ok-vertex.ensures.inserts.points

pub returns-in_default-clause-stands : goal.returns-in_default-clause-stands
returns-in_default-clause-stands g c =
    answers_none_too (HasPoint (mesh_in c.args.self.now)) c.args.points.now c.args.vertices.now.items c.args.number (sym c.requires.given ∙ c.in_default.is)

pub returns-in_err-vertex-clause-adds : goal.returns-in_err-vertex-clause-adds
returns-in_err-vertex-clause-adds g c =
    failed_adds c.args.self.now.planar c.insert_from.new.self.planar c.in-Some.point c.args.points.now c.args.number (sym c.requires.given ∙ c.in-Some.is) _
    c.in_err-vertex.ensures.refuses

pub returns-in_err-vertex-clause-fails : goal.returns-in_err-vertex-clause-fails
returns-in_err-vertex-clause-fails g c =
    let given = err_from_is_err_and c.from_residual.result c.from_residual.ensures.1 in
    rw (given.1, given.2) (failed_all c.args.self.now.planar c.insert_from.new.self.planar c.in-Some.point _ c.in_err-vertex.ensures.refuses)
