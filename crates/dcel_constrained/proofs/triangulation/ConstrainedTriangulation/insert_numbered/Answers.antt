use Rattle.std.proofs.Common.{sym, subst, ◌∙◌}
use Rattle.std.proofs.lemmas.Result.{err_from_is_err_and}
use Rattle.dcel_delaunay.proofs.Standing.{adds_one, answers_none_too, failed_adds, failed_all, stands_too}
use Rattle.dcel_delaunay.specs.Bulk.{StandsToo}
use Rattle.dcel_planar.specs.Places.{HasPoint}
use Rattle.dcel_constrained.specs.Constrained.{marked_mesh}
use Rattle.dcel_constrained.proofs.Many.{splits_same}
use Rattle.dcel_constrained.proofs.triangulation.ConstrainedTriangulation.insert_numbered.Goals as goal

pub returns-clause-stands : goal.returns-clause-stands
returns-clause-stands g c =
    let old = marked_mesh c.args.self.now in
    let new = marked_mesh c.insert-inserted.new.self in
    let takes = c.in_ok-vertex.ensures.inserts in
    let at = sym c.item_of.ensures ∙ c.in-Some.is in
    subst (StandsToo old new c.args.points.now c.args.number c.args.vertices.now.items) (sym c.note.ensures)
    (stands_too old new c.args.points.now c.args.vertices.now.items c.args.number _ c.in-Some.point 1 at
    (adds_one old new c.args.points.now c.args.number c.in-Some.point at takes.points) takes.has)

pub returns-clause-adds : goal.returns-clause-adds
returns-clause-adds g c =
    adds_one (marked_mesh c.args.self.now) (marked_mesh c.insert-inserted.new.self) c.args.points.now c.args.number c.in-Some.point (sym c.item_of.ensures ∙ c.in-Some.is)
    c.in_ok-vertex.ensures.inserts.points

pub returns-in_default-clause-stands : goal.returns-in_default-clause-stands
returns-in_default-clause-stands g c =
    answers_none_too (HasPoint (marked_mesh c.args.self.now)) c.args.points.now c.args.vertices.now.items c.args.number (sym c.item_of.ensures ∙ c.in_default.is)

pub returns-in_default-clause-splits : goal.returns-in_default-clause-splits
returns-in_default-clause-splits g c = splits_same (marked_mesh c.args.self.now) c.every_mesh.ensures c.args.self.now.planar.triangulated.closed

pub returns-in_err-vertex-clause-adds : goal.returns-in_err-vertex-clause-adds
returns-in_err-vertex-clause-adds g c =
    failed_adds c.args.self.now.planar c.insert-inserted.new.self.planar c.in-Some.point c.args.points.now c.args.number (sym c.item_of.ensures ∙ c.in-Some.is) _
    c.in_err-vertex.ensures.refuses

pub returns-in_err-vertex-clause-fails : goal.returns-in_err-vertex-clause-fails
returns-in_err-vertex-clause-fails g c =
    let given = err_from_is_err_and c.from_residual.result c.from_residual.ensures.1 in
    rw (given.1, given.2) (failed_all c.args.self.now.planar c.insert-inserted.new.self.planar c.in-Some.point _ c.in_err-vertex.ensures.refuses)
