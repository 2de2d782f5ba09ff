use Rattle.std.proofs.Common.{ℕ, subst}
use Rattle.dcel_constrained.specs.Blocking.{FailsToAdd}
use Rattle.dcel_constrained.specs.Constrained.{marked_mesh}
use Rattle.dcel_constrained.specs.Constraints.{HasConstraint, MarksOnly}
use Rattle.dcel_triangulations.proofs.Laying.{mesh_is, refused_as, status_is, whole_still}
use Rattle.dcel_triangulations.proofs.constrained.adding.add_one.Goals.{Joined-error}
use Rattle.dcel_triangulations.proofs.constrained.adding.add_one.Goals as goal

fails : (c : Joined-error) → FailsToAdd c.args.kept.now.planar c.try_add_constraint-added.new.self.planar c.args.segment.from c.args.segment.to c.in-Err.error
fails c =
    let old = c.args.kept.now.planar in
    let new = c.try_add_constraint-added.new.self.planar in
    subst (λ (v : ℕ). FailsToAdd old new v c.args.segment.to c.in-Err.error) c.vertex.ensures
    (subst (λ (w : ℕ). FailsToAdd old new c.vertex.result w c.in-Err.error) c.vertex-2.ensures c.in-Err.ensures.refuses)

pub returns-in-Ok-clause-added : goal.returns-in-Ok-clause-added
returns-in-Ok-clause-added c = λ _.
    let new = marked_mesh c.try_add_constraint-added.new.self in
    subst (λ (v : ℕ). HasConstraint new v c.args.segment.to) c.vertex.ensures
    (subst (λ (w : ℕ). HasConstraint new c.vertex.result w) c.vertex-2.ensures c.in-Ok.ensures.constrained)

pub returns-in-Ok-clause-only : goal.returns-in-Ok-clause-only
returns-in-Ok-clause-only c =
    let old = marked_mesh c.args.kept.now in
    let new = marked_mesh c.try_add_constraint-added.new.self in
    subst (λ (v : ℕ). MarksOnly old new v c.args.segment.to) c.vertex.ensures
    (subst (λ (w : ℕ). MarksOnly old new c.vertex.result w) c.vertex-2.ensures c.try_add_constraint-added.ensures.only)

pub returns-in-Ok-clause-mesh : goal.returns-in-Ok-clause-mesh
returns-in-Ok-clause-mesh c = mesh_is c.dcel.result.now (marked_mesh c.try_add_constraint-added.new.self) c.dcel.ensures.mesh c.every_mesh.ensures

pub returns-in-Err-clause-only : goal.returns-in-Err-clause-only
returns-in-Err-clause-only c =
    let old = marked_mesh c.args.kept.now in
    let new = marked_mesh c.try_add_constraint-added.new.self in
    subst (λ (v : ℕ). MarksOnly old new v c.args.segment.to) c.vertex.ensures
    (subst (λ (w : ℕ). MarksOnly old new c.vertex.result w) c.vertex-2.ensures c.try_add_constraint-added.ensures.only)

pub returns-in-Err-clause-whole : goal.returns-in-Err-clause-whole
returns-in-Err-clause-whole c =
    whole_still c.args.kept.now c.try_add_constraint-added.new.self c.args.segment c.in-Err.error c.status_of_constraint.result c.status_of_constraint.ensures (fails c)

pub returns-in-Err-clause-refused : goal.returns-in-Err-clause-refused
returns-in-Err-clause-refused c =
    refused_as c.args.kept.now c.try_add_constraint-added.new.self c.args.segment c.in-Err.error c.status_of_constraint.result c.status_of_constraint.ensures (fails c)

pub returns-in-Err-clause-status : goal.returns-in-Err-clause-status
returns-in-Err-clause-status c =
    status_is c.args.kept.now c.try_add_constraint-added.new.self c.args.segment c.in-Err.error c.status_of_constraint.result c.status_of_constraint.ensures

pub returns-in-Err-clause-mesh : goal.returns-in-Err-clause-mesh
returns-in-Err-clause-mesh c = mesh_is c.dcel.result.now (marked_mesh c.try_add_constraint-added.new.self) c.dcel.ensures.mesh c.every_mesh.ensures
