use Rattle.std.proofs.Common.{◌≡◌, ◌≢◌, ◌↔◌, ◌∙◌, inl, Bool, IsTrue, ap, arith}
use Rattle.std.proofs.lemmas.Result.{IfOk-weaker}
use Rattle.dcel_predicates.specs.declared.point.Point.{Point}
use Rattle.dcel_maps.specs.Shapes.{Mesh, face_count}
use Rattle.dcel_planar.proofs.Whole.{flat_alone, hull_more}
use Rattle.dcel_regions.specs.declared.mark.Mark.{Mark}
use Rattle.dcel_constrained.specs.Soundness.{MarksAnother}
use Rattle.dcel_constrained.proofs.Finished.{added_still, can_again, can_still, only_still}
use Rattle.dcel_constrained.proofs.Laid.{keeps_both, left_after, same_after}
use Rattle.dcel_constrained.proofs.Settled.{outlined_of}
use Rattle.dcel_constrained.proofs.triangulation.ConstrainedTriangulation.add_constraint.Goals as goal

pub returns-in_default-clause-only : goal.returns-in_default-clause-only
returns-in_default-clause-only g c u marked = inl (c.finish.ensures.only u marked)

pub returns-in_default-clause-again : goal.returns-in_default-clause-again
returns-in_default-clause-again g c =
    can_still c.args.self.now.planar.dcel c.finish.new.self.planar.dcel c.finish.ensures.keeps c.finish.ensures.only c.every_mesh.ensures c.every_mesh-in_default.ensures
    c.args.self.now.planar.triangulated.closed c.finish.ensures.points c.args.from c.args.to c.requires.can

pub returns-in_default-clause-same_edges : goal.returns-in_default-clause-same_edges
returns-in_default-clause-same_edges g c whole = ap (λ (m : Mesh Point (Unit {0}) Mark (Unit {0})). m.shape.edges) (c.finish.ensures.same whole)

pub lay_on_line-requires-clause-flat : goal.lay_on_line-requires-clause-flat
lay_on_line-requires-clause-flat g c =
    let t = c.finish.new.self in
    let one : face_count t.planar.dcel.shape ≡ 1 = omega (arith, c.num_faces.ensures.count, c.if-num_faces-eq1.true) in
    flat_alone t.planar.dcel (outlined_of t c.in-Ok.ensures.whole) one

pub lay_on_line-requires-clause-can : goal.lay_on_line-requires-clause-can
lay_on_line-requires-clause-can g c =
    can_still c.args.self.now.planar.dcel c.finish.new.self.planar.dcel c.finish.ensures.keeps c.finish.ensures.only c.every_mesh.ensures c.every_mesh-2.ensures
    c.args.self.now.planar.triangulated.closed c.finish.ensures.points c.args.from c.args.to c.requires.can

pub returns-then-num_faces-eq1-clause-keeps : goal.returns-then-num_faces-eq1-clause-keeps
returns-then-num_faces-eq1-clause-keeps g c =
    keeps_both c.args.self.now.planar.dcel c.finish.new.self.planar.dcel c.lay_on_line.new.dcel c.finish.ensures.keeps c.lay_on_line.ensures.keeps

pub returns-then-num_faces-eq1-clause-only : goal.returns-then-num_faces-eq1-clause-only
returns-then-num_faces-eq1-clause-only g c =
    only_still c.args.self.now.planar.dcel c.finish.new.self.planar.dcel c.finish.ensures.keeps c.finish.ensures.only c.lay_on_line.new.dcel c.args.from c.args.to
    c.lay_on_line.ensures.only

pub returns-then-num_faces-eq1-clause-added : goal.returns-then-num_faces-eq1-clause-added
returns-then-num_faces-eq1-clause-added g c =
    added_still c.args.self.now.planar.dcel c.finish.new.self.planar.dcel c.finish.ensures.keeps c.finish.ensures.only c.lay_on_line.new.dcel c.lay_on_line.result
    c.lay_on_line.ensures.added

pub returns-then-num_faces-eq1-clause-again : goal.returns-then-num_faces-eq1-clause-again
returns-then-num_faces-eq1-clause-again g c =
    let t = c.args.self.now in
    let mid = c.finish.new.self.planar.dcel in
    let keeps = keeps_both t.planar.dcel mid c.lay_on_line.new.dcel c.finish.ensures.keeps c.lay_on_line.ensures.keeps in
    let only = only_still t.planar.dcel mid c.finish.ensures.keeps c.finish.ensures.only c.lay_on_line.new.dcel c.args.from c.args.to c.lay_on_line.ensures.only in
    can_again t.planar.dcel c.lay_on_line.new.dcel c.args.from c.args.to keeps only c.every_mesh.ensures c.lay_on_line.ensures.mesh t.planar.triangulated.closed
    (c.lay_on_line.ensures.points ∙ c.finish.ensures.points) c.requires.can

pub returns-then-num_faces-eq1-clause-same_edges : goal.returns-then-num_faces-eq1-clause-same_edges
returns-then-num_faces-eq1-clause-same_edges g c whole =
    c.lay_on_line.ensures.edges ∙ ap (λ (m : Mesh Point (Unit {0}) Mark (Unit {0})). m.shape.edges) (c.finish.ensures.same whole)

pub lay_through_triangles-requires-clause-hull : goal.lay_through_triangles-requires-clause-hull
lay_through_triangles-requires-clause-hull g c =
    let t = c.finish.new.self in
    let more : face_count t.planar.dcel.shape ≢ 1 = λ one. omega (arith, c.num_faces.ensures.count, c.if-num_faces-eq1.false, one) in
    hull_more t.planar.dcel (outlined_of t c.in-Ok.ensures.whole) more

pub lay_through_triangles-requires-clause-can : goal.lay_through_triangles-requires-clause-can
lay_through_triangles-requires-clause-can g c =
    can_still c.args.self.now.planar.dcel c.finish.new.self.planar.dcel c.finish.ensures.keeps c.finish.ensures.only c.every_mesh.ensures c.every_mesh-2.ensures
    c.args.self.now.planar.triangulated.closed c.finish.ensures.points c.args.from c.args.to c.requires.can

pub returns-clause-keeps : goal.returns-clause-keeps
returns-clause-keeps g c =
    keeps_both c.args.self.now.planar.dcel c.finish.new.self.planar.dcel c.lay_through_triangles.new.planar.dcel c.finish.ensures.keeps c.lay_through_triangles.ensures.keeps

pub returns-clause-only : goal.returns-clause-only
returns-clause-only g c =
    only_still c.args.self.now.planar.dcel c.finish.new.self.planar.dcel c.finish.ensures.keeps c.finish.ensures.only c.lay_through_triangles.new.planar.dcel c.args.from c.args.to
    c.lay_through_triangles.ensures.only

pub returns-clause-again : goal.returns-clause-again
returns-clause-again g c =
    let t = c.args.self.now in
    let mid = c.finish.new.self.planar.dcel in
    let lay = c.lay_through_triangles in
    let keeps = keeps_both t.planar.dcel mid lay.new.planar.dcel c.finish.ensures.keeps lay.ensures.keeps in
    let only = only_still t.planar.dcel mid c.finish.ensures.keeps c.finish.ensures.only lay.new.planar.dcel c.args.from c.args.to lay.ensures.only in
    can_again t.planar.dcel lay.new.planar.dcel c.args.from c.args.to keeps only c.every_mesh.ensures lay.ensures.mesh t.planar.triangulated.closed (lay.ensures.points ∙ c.finish.ensures.points)
    c.requires.can

pub returns-clause-same_edges : goal.returns-clause-same_edges
returns-clause-same_edges g c whole =
    c.lay_through_triangles.ensures.edges ∙ ap (λ (m : Mesh Point (Unit {0}) Mark (Unit {0})). m.shape.edges) (c.finish.ensures.same whole)

pub returns-clause-added : goal.returns-clause-added
returns-clause-added g c =
    let old = c.args.self.now.planar.dcel in
    let mid = c.finish.new.self.planar.dcel in
    let lay = c.lay_through_triangles in
    IfOk-weaker lay.result (λ (b : Bool). IsTrue b ↔ MarksAnother mid lay.new.planar.dcel) (λ (b : Bool). IsTrue b ↔ MarksAnother old lay.new.planar.dcel)
    (λ b told. added_still old mid c.finish.ensures.keeps c.finish.ensures.only lay.new.planar.dcel b told) lay.ensures.added

pub returns-then-num_faces-eq1-clause-same : goal.returns-then-num_faces-eq1-clause-same
returns-then-num_faces-eq1-clause-same g c whole none = (
  same_after c.args.self.now.planar.dcel c.finish.new.self.planar.dcel c.lay_on_line.new.dcel c.finish.ensures.keeps c.lay_on_line.ensures.keeps (λ _. c.finish.ensures.same whole)
      c.lay_on_line.ensures.same none,
  c.in-Ok.ensures.whole,
)

pub returns-clause-same : goal.returns-clause-same
returns-clause-same g c whole none =
    left_after c.args.self.now.planar.dcel c.finish.new.self.planar.dcel c.lay_through_triangles.new.planar.dcel c.lay_through_triangles.new.planar.due.items c.finish.ensures.keeps
    c.lay_through_triangles.ensures.keeps (λ _. c.finish.ensures.same whole) c.lay_through_triangles.ensures.same none
