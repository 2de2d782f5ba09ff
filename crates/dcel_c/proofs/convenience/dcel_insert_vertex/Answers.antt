use Rattle.std.proofs.Common.{ℕ, Some, subst, ◌∙◌}
use Rattle.dcel_convenience.specs.Inserting.{MayNotInsert}
use Rattle.dcel_c.specs.Calls.{kept_in}
use Rattle.dcel_c.specs.Convenience.{InsertsVertex, HasNewVertex, status_of_insertion}
use Rattle.dcel_c.proofs.Ended.{carried_out, is_none, no_mesh, refused_so, insertion_counts}
use Rattle.dcel_c.proofs.convenience.dcel_insert_vertex.Goals as goal

pub returns-then-not-mesh : goal.returns-then-not-mesh
returns-then-not-mesh c =
    no_mesh (λ was is told. HasNewVertex was c.args.face c.args.datum is told) (λ was why. MayNotInsert was.shape c.args.face why) status_of_insertion
    (kept_in c.args.mesh.now) c.args.vertex.now (is_none (kept_in c.args.mesh.now) c.args.mesh.now.is_open c.args.mesh.now.agrees c.if-not-mesh.true)

pub returns-in-Ok : goal.returns-in-Ok
returns-in-Ok c =
    let it = c.in-Ok.ensures in
    subst (λ (n : ℕ). InsertsVertex (kept_in c.args.mesh.now) n c.args.datum (Some c.insert_vertex.new.dcel) c.args.vertex.now c.index.result 0) c.new-face.ensures
    (carried_out (λ was is told. HasNewVertex was c.new-face.result c.args.datum is told) (λ was why. MayNotInsert was.shape c.new-face.result why) status_of_insertion
    (kept_in c.args.mesh.now) c.as_mut.result.now c.insert_vertex.new.dcel c.args.vertex.now c.index.result c.as_mut.ensures.value
    (record { can = it.can; edit = it.edit; said = c.index.ensures.value ∙ it.answer }))

pub returns-in-Err : goal.returns-in-Err
returns-in-Err c =
    subst (λ (n : ℕ). InsertsVertex (kept_in c.args.mesh.now) n c.args.datum (Some c.insert_vertex.new.dcel) c.args.vertex.now c.args.vertex.now c.insertion_status.result) c.new-face.ensures
    (refused_so (λ was is told. HasNewVertex was c.new-face.result c.args.datum is told) (λ was why. MayNotInsert was.shape c.new-face.result why) status_of_insertion
    (kept_in c.args.mesh.now) c.as_mut.result.now c.insert_vertex.new.dcel c.args.vertex.now c.in-Err.refused.why c.insertion_status.result c.as_mut.ensures.value
    c.in-Err.ensures.refused c.in-Err.ensures.why c.insertion_status.ensures (insertion_counts c.in-Err.refused.why))
