use Rattle.std.proofs.Common.{◌∙◌, inl, Bool, Option, ap, subst, sym, arith}
use Rattle.dcel_predicates.specs.declared.point.Point.{Point}
use Rattle.dcel_maps.specs.Shapes.{Mesh}
use Rattle.dcel_regions.specs.declared.mark.Mark.{Mark}
use Rattle.dcel_regions.specs.Marked.{IsMarked}
use Rattle.dcel_constrained.specs.Channels.{HasVertices}
use Rattle.dcel_constrained.specs.Laying.{IsLaidIfFree}
use Rattle.dcel_constrained.specs.Soundness.{CanAdd}
use Rattle.dcel_constrained.proofs.Blocked.{blocked_since, finishes_only}
use Rattle.dcel_constrained.proofs.Finished.{added_still, can_again, can_still, only_still}
use Rattle.dcel_constrained.proofs.Laid.{keeps_both, left_after}
use Rattle.dcel_constrained.proofs.triangulation.ConstrainedTriangulation.try_add_constraint.Goals as goal

pub returns-in_default-clause-only : goal.returns-in_default-clause-only
returns-in_default-clause-only g c u marked = inl (c.finish.ensures.only u marked)

pub returns-in_default-clause-same : goal.returns-in_default-clause-same
returns-in_default-clause-same g c whole none = absurd (let no = c.in_default.ensures.ready whole in cc)

pub returns-in_default-clause-refuses : goal.returns-in_default-clause-refuses
returns-in_default-clause-refuses g c another = absurd (another.2 (c.finish.ensures.only another.0 another.1))

pub returns-in_default-clause-again : goal.returns-in_default-clause-again
returns-in_default-clause-again g c =
    can_still c.args.self.now.planar.dcel c.finish.new.self.planar.dcel c.finish.ensures.keeps c.finish.ensures.only c.every_mesh.ensures c.every_mesh-in_default.ensures
    c.args.self.now.planar.triangulated.closed c.finish.ensures.points c.args.from c.args.to

pub returns-in_default-clause-same_edges : goal.returns-in_default-clause-same_edges
returns-in_default-clause-same_edges g c whole = ap (λ (m : Mesh Point (Unit {0}) Mark (Unit {0})). m.shape.edges) (c.finish.ensures.same whole)

pub returns-then-index-vertices-clause-refuses : goal.returns-then-index-vertices-clause-refuses
returns-then-index-vertices-clause-refuses g c = (
  λ ends. omega (arith, ends.from, c.index.ensures.value, c.num_vertices-vertices.ensures.count, c.if-index-vertices.true),
  finishes_only c.args.self.now.planar c.finish.new.self.planar c.finish.ensures.points c.finish.ensures.same c.finish.ensures.only c.in-Ok.ensures.whole,
)

pub returns-then-index-vertices-clause-only : goal.returns-then-index-vertices-clause-only
returns-then-index-vertices-clause-only g c u marked = inl (c.finish.ensures.only u marked)

pub returns-then-index-vertices-2-clause-refuses : goal.returns-then-index-vertices-2-clause-refuses
returns-then-index-vertices-2-clause-refuses g c = (
  λ ends. omega (arith, ends.to, c.index-2.ensures.value, c.num_vertices-vertices.ensures.count, c.if-index-vertices-2.true),
  finishes_only c.args.self.now.planar c.finish.new.self.planar c.finish.ensures.points c.finish.ensures.same c.finish.ensures.only c.in-Ok.ensures.whole,
)

pub returns-then-index-vertices-2-clause-only : goal.returns-then-index-vertices-2-clause-only
returns-then-index-vertices-2-clause-only g c u marked = inl (c.finish.ensures.only u marked)

pub returns-then-index-vertices-clause-again : goal.returns-then-index-vertices-clause-again
returns-then-index-vertices-clause-again g c =
    can_still c.args.self.now.planar.dcel c.finish.new.self.planar.dcel c.finish.ensures.keeps c.finish.ensures.only c.every_mesh.ensures c.every_mesh-2.ensures
    c.args.self.now.planar.triangulated.closed c.finish.ensures.points c.args.from c.args.to

pub returns-then-index-vertices-clause-same_edges : goal.returns-then-index-vertices-clause-same_edges
returns-then-index-vertices-clause-same_edges g c whole = ap (λ (m : Mesh Point (Unit {0}) Mark (Unit {0})). m.shape.edges) (c.finish.ensures.same whole)

pub returns-then-index-vertices-2-clause-again : goal.returns-then-index-vertices-2-clause-again
returns-then-index-vertices-2-clause-again g c =
    can_still c.args.self.now.planar.dcel c.finish.new.self.planar.dcel c.finish.ensures.keeps c.finish.ensures.only c.every_mesh.ensures c.every_mesh-2.ensures
    c.args.self.now.planar.triangulated.closed c.finish.ensures.points c.args.from c.args.to

pub returns-then-index-vertices-2-clause-same_edges : goal.returns-then-index-vertices-2-clause-same_edges
returns-then-index-vertices-2-clause-same_edges g c whole = ap (λ (m : Mesh Point (Unit {0}) Mark (Unit {0})). m.shape.edges) (c.finish.ensures.same whole)

pub add_if_free-requires-clause-ends : goal.add_if_free-requires-clause-ends
add_if_free-requires-clause-ends g c = record {
  from = omega (arith, c.index.ensures.value, c.num_vertices-vertices.ensures.count, c.if-index-vertices.false);
  to = omega (arith, c.index-2.ensures.value, c.num_vertices-vertices.ensures.count, c.if-index-vertices-2.false);
}

pub returns-in_default-add_if_free-clause-keeps : goal.returns-in_default-add_if_free-clause-keeps
returns-in_default-add_if_free-clause-keeps g c =
    keeps_both c.args.self.now.planar.dcel c.finish.new.self.planar.dcel c.add_if_free.new.self.planar.dcel c.finish.ensures.keeps c.add_if_free.ensures.keeps

pub returns-in_default-add_if_free-clause-only : goal.returns-in_default-add_if_free-clause-only
returns-in_default-add_if_free-clause-only g c =
    only_still c.args.self.now.planar.dcel c.finish.new.self.planar.dcel c.finish.ensures.keeps c.finish.ensures.only c.add_if_free.new.self.planar.dcel c.args.from c.args.to c.add_if_free.ensures.only

pub returns-in_default-add_if_free-clause-again : goal.returns-in_default-add_if_free-clause-again
returns-in_default-add_if_free-clause-again g c =
    can_again c.args.self.now.planar.dcel c.add_if_free.new.self.planar.dcel c.args.from c.args.to (keeps_both c.args.self.now.planar.dcel c.finish.new.self.planar.dcel c.add_if_free.new.self.planar.dcel c.finish.ensures.keeps c.add_if_free.ensures.keeps)
    (only_still c.args.self.now.planar.dcel c.finish.new.self.planar.dcel c.finish.ensures.keeps c.finish.ensures.only c.add_if_free.new.self.planar.dcel c.args.from c.args.to c.add_if_free.ensures.only)
    c.every_mesh.ensures c.add_if_free.ensures.mesh c.args.self.now.planar.triangulated.closed (c.add_if_free.ensures.points ∙ c.finish.ensures.points)

pub returns-in_default-add_if_free-clause-same_edges : goal.returns-in_default-add_if_free-clause-same_edges
returns-in_default-add_if_free-clause-same_edges g c whole =
    c.add_if_free.ensures.edges ∙ ap (λ (m : Mesh Point (Unit {0}) Mark (Unit {0})). m.shape.edges) (c.finish.ensures.same whole)

pub returns-in_default-add_if_free-clause-same : goal.returns-in_default-add_if_free-clause-same
returns-in_default-add_if_free-clause-same g c whole none =
    left_after c.args.self.now.planar.dcel c.finish.new.self.planar.dcel c.add_if_free.new.self.planar.dcel c.add_if_free.new.self.planar.due.items c.finish.ensures.keeps c.add_if_free.ensures.keeps
    (λ _. c.finish.ensures.same whole) c.add_if_free.ensures.same none

pub returns-in-Some-clause-keeps : goal.returns-in-Some-clause-keeps
returns-in-Some-clause-keeps g c =
    keeps_both c.args.self.now.planar.dcel c.finish.new.self.planar.dcel c.add_if_free.new.self.planar.dcel c.finish.ensures.keeps c.add_if_free.ensures.keeps

pub returns-in-Some-clause-only : goal.returns-in-Some-clause-only
returns-in-Some-clause-only g c =
    only_still c.args.self.now.planar.dcel c.finish.new.self.planar.dcel c.finish.ensures.keeps c.finish.ensures.only c.add_if_free.new.self.planar.dcel c.args.from c.args.to c.add_if_free.ensures.only

pub returns-in-Some-clause-again : goal.returns-in-Some-clause-again
returns-in-Some-clause-again g c =
    can_again c.args.self.now.planar.dcel c.add_if_free.new.self.planar.dcel c.args.from c.args.to (keeps_both c.args.self.now.planar.dcel c.finish.new.self.planar.dcel c.add_if_free.new.self.planar.dcel c.finish.ensures.keeps c.add_if_free.ensures.keeps)
    (only_still c.args.self.now.planar.dcel c.finish.new.self.planar.dcel c.finish.ensures.keeps c.finish.ensures.only c.add_if_free.new.self.planar.dcel c.args.from c.args.to c.add_if_free.ensures.only)
    c.every_mesh.ensures c.add_if_free.ensures.mesh c.args.self.now.planar.triangulated.closed (c.add_if_free.ensures.points ∙ c.finish.ensures.points)

pub returns-in-Some-clause-same_edges : goal.returns-in-Some-clause-same_edges
returns-in-Some-clause-same_edges g c whole =
    c.add_if_free.ensures.edges ∙ ap (λ (m : Mesh Point (Unit {0}) Mark (Unit {0})). m.shape.edges) (c.finish.ensures.same whole)

pub returns-in-Some-clause-same : goal.returns-in-Some-clause-same
returns-in-Some-clause-same g c whole none =
    left_after c.args.self.now.planar.dcel c.finish.new.self.planar.dcel c.add_if_free.new.self.planar.dcel c.add_if_free.new.self.planar.due.items c.finish.ensures.keeps c.add_if_free.ensures.keeps
    (λ _. c.finish.ensures.same whole) c.add_if_free.ensures.same none

pub returns-in-None-clause-keeps : goal.returns-in-None-clause-keeps
returns-in-None-clause-keeps g c =
    keeps_both c.args.self.now.planar.dcel c.finish.new.self.planar.dcel c.add_if_free.new.self.planar.dcel c.finish.ensures.keeps c.add_if_free.ensures.keeps

pub returns-in-None-clause-only : goal.returns-in-None-clause-only
returns-in-None-clause-only g c =
    only_still c.args.self.now.planar.dcel c.finish.new.self.planar.dcel c.finish.ensures.keeps c.finish.ensures.only c.add_if_free.new.self.planar.dcel c.args.from c.args.to c.add_if_free.ensures.only

pub returns-in-None-clause-again : goal.returns-in-None-clause-again
returns-in-None-clause-again g c =
    can_again c.args.self.now.planar.dcel c.add_if_free.new.self.planar.dcel c.args.from c.args.to (keeps_both c.args.self.now.planar.dcel c.finish.new.self.planar.dcel c.add_if_free.new.self.planar.dcel c.finish.ensures.keeps c.add_if_free.ensures.keeps)
    (only_still c.args.self.now.planar.dcel c.finish.new.self.planar.dcel c.finish.ensures.keeps c.finish.ensures.only c.add_if_free.new.self.planar.dcel c.args.from c.args.to c.add_if_free.ensures.only)
    c.every_mesh.ensures c.add_if_free.ensures.mesh c.args.self.now.planar.triangulated.closed (c.add_if_free.ensures.points ∙ c.finish.ensures.points)

pub returns-in-None-clause-same_edges : goal.returns-in-None-clause-same_edges
returns-in-None-clause-same_edges g c whole =
    c.add_if_free.ensures.edges ∙ ap (λ (m : Mesh Point (Unit {0}) Mark (Unit {0})). m.shape.edges) (c.finish.ensures.same whole)

pub returns-in-None-clause-same : goal.returns-in-None-clause-same
returns-in-None-clause-same g c whole none =
    left_after c.args.self.now.planar.dcel c.finish.new.self.planar.dcel c.add_if_free.new.self.planar.dcel c.add_if_free.new.self.planar.due.items c.finish.ensures.keeps c.add_if_free.ensures.keeps
    (λ _. c.finish.ensures.same whole) c.add_if_free.ensures.same none

pub returns-in_default-add_if_free-clause-refuses : goal.returns-in_default-add_if_free-clause-refuses
returns-in_default-add_if_free-clause-refuses g c another =
    let free = c.in_default-add_if_free.ensures.tested (another.0, another.1, λ was. another.2 (c.finish.ensures.only another.0 was)) in
    can_again c.finish.new.self.planar.dcel c.add_if_free.new.self.planar.dcel c.args.from c.args.to c.add_if_free.ensures.keeps c.add_if_free.ensures.only c.every_mesh-2.ensures c.add_if_free.ensures.mesh
    c.finish.new.self.planar.triangulated.closed c.add_if_free.ensures.points (record {
      from = omega (arith, c.index.ensures.value, c.num_vertices-vertices.ensures.count, c.if-index-vertices.false);
      to = omega (arith, c.index-2.ensures.value, c.num_vertices-vertices.ensures.count, c.if-index-vertices-2.false);
      free = free;
    })

pub returns-in-Some-clause-constrained : goal.returns-in-Some-clause-constrained
returns-in-Some-clause-constrained g c =
    let laid = subst (λ (o : Option Bool). IsLaidIfFree c.finish.new.self.planar.dcel c.add_if_free.new.self.planar.dcel c.args.from c.args.to o) c.in-Some.is c.in-Ok-add_if_free.ensures.laid in
    laid.0

pub returns-in-Some-clause-added : goal.returns-in-Some-clause-added
returns-in-Some-clause-added g c =
    let laid = subst (λ (o : Option Bool). IsLaidIfFree c.finish.new.self.planar.dcel c.add_if_free.new.self.planar.dcel c.args.from c.args.to o) c.in-Some.is c.in-Ok-add_if_free.ensures.laid in
    added_still c.args.self.now.planar.dcel c.finish.new.self.planar.dcel c.finish.ensures.keeps c.finish.ensures.only c.add_if_free.new.self.planar.dcel c.in-Some.added laid.1

pub returns-in-Some-clause-can : goal.returns-in-Some-clause-can
returns-in-Some-clause-can g c =
    let laid = subst (λ (o : Option Bool). IsLaidIfFree c.finish.new.self.planar.dcel c.add_if_free.new.self.planar.dcel c.args.from c.args.to o) c.in-Some.is c.in-Ok-add_if_free.ensures.laid in
    can_again c.finish.new.self.planar.dcel c.add_if_free.new.self.planar.dcel c.args.from c.args.to c.add_if_free.ensures.keeps c.add_if_free.ensures.only c.every_mesh-2.ensures c.add_if_free.ensures.mesh
    c.finish.new.self.planar.triangulated.closed c.add_if_free.ensures.points (record {
      from = omega (arith, c.index.ensures.value, c.num_vertices-vertices.ensures.count, c.if-index-vertices.false);
      to = omega (arith, c.index-2.ensures.value, c.num_vertices-vertices.ensures.count, c.if-index-vertices-2.false);
      free = laid.2;
    })

pub what_blocks-requires-clause-ends : goal.what_blocks-requires-clause-ends
what_blocks-requires-clause-ends g c =
    let laid = subst (λ (o : Option Bool). IsLaidIfFree c.finish.new.self.planar.dcel c.add_if_free.new.self.planar.dcel c.args.from c.args.to o) c.in-None.is c.in-Ok-add_if_free.ensures.laid in
    subst (λ (m : Mesh Point (Unit {0}) Mark (Unit {0})). HasVertices m.shape c.args.from c.args.to) (sym laid.0) (record {
      from = omega (arith, c.index.ensures.value, c.num_vertices-vertices.ensures.count, c.if-index-vertices.false);
      to = omega (arith, c.index-2.ensures.value, c.num_vertices-vertices.ensures.count, c.if-index-vertices-2.false);
    })

pub what_blocks-requires-clause-not : goal.what_blocks-requires-clause-not
what_blocks-requires-clause-not g c =
    let laid = subst (λ (o : Option Bool). IsLaidIfFree c.finish.new.self.planar.dcel c.add_if_free.new.self.planar.dcel c.args.from c.args.to o) c.in-None.is c.in-Ok-add_if_free.ensures.laid in
    λ can. laid.1 (subst (λ (m : Mesh Point (Unit {0}) Mark (Unit {0})). CanAdd m c.args.from c.args.to) laid.0 can).free

pub returns-in-None-clause-refuses : goal.returns-in-None-clause-refuses
returns-in-None-clause-refuses g c =
    let laid = subst (λ (o : Option Bool). IsLaidIfFree c.finish.new.self.planar.dcel c.add_if_free.new.self.planar.dcel c.args.from c.args.to o) c.in-None.is c.in-Ok-add_if_free.ensures.laid in
    blocked_since c.args.self.now.planar c.add_if_free.new.self.planar (c.add_if_free.ensures.points ∙ c.finish.ensures.points) (λ whole. laid.0 ∙ c.finish.ensures.same whole)
    (λ u marked. c.finish.ensures.only u (subst (λ (m : Mesh Point (Unit {0}) Mark (Unit {0})). IsMarked m u) laid.0 marked)) c.args.from c.args.to c.what_blocks.result
    c.what_blocks.ensures
