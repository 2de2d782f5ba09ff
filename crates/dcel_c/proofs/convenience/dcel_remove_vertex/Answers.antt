use Rattle.std.proofs.Common.{ℕ, Some, subst}
use Rattle.dcel_convenience.specs.Anywhere.{MayNotLeave}
use Rattle.dcel_c.specs.Calls.{kept_in}
use Rattle.dcel_c.specs.Convenience.{RemovesVertex, IsRemoved, status_of_removal}
use Rattle.dcel_c.proofs.Ended.{carried_out, is_none, no_mesh, refused_so, removal_counts}
use Rattle.dcel_c.proofs.convenience.dcel_remove_vertex.Goals as goal

pub returns-then-not-mesh : goal.returns-then-not-mesh
returns-then-not-mesh c =
    no_mesh (λ was is told. IsRemoved was c.args.vertex is told) (λ was why. MayNotLeave was c.args.vertex why) status_of_removal
    (kept_in c.args.mesh.now) c.args.removed.now (is_none (kept_in c.args.mesh.now) c.args.mesh.now.is_open c.args.mesh.now.agrees c.if-not-mesh.true)

pub returns-in-Ok : goal.returns-in-Ok
returns-in-Ok c =
    let it = c.in-Ok.ensures in
    subst (λ (n : ℕ). RemovesVertex (kept_in c.args.mesh.now) n (Some c.remove_any_vertex.new.dcel) c.args.removed.now c.removed_in.result 0) c.new-vertex.ensures
    (carried_out (λ was is told. IsRemoved was c.new-vertex.result is told) (λ was why. MayNotLeave was c.new-vertex.result why) status_of_removal
    (kept_in c.args.mesh.now) c.as_mut.result.now c.remove_any_vertex.new.dcel c.args.removed.now c.removed_in.result c.as_mut.ensures.value
    (record { taken = c.in-Ok.taken; removes = it.outcome; said = c.removed_in.ensures }))

pub returns-in-Err : goal.returns-in-Err
returns-in-Err c =
    subst (λ (n : ℕ). RemovesVertex (kept_in c.args.mesh.now) n (Some c.remove_any_vertex.new.dcel) c.args.removed.now c.args.removed.now c.removal_status.result) c.new-vertex.ensures
    (refused_so (λ was is told. IsRemoved was c.new-vertex.result is told) (λ was why. MayNotLeave was c.new-vertex.result why) status_of_removal
    (kept_in c.args.mesh.now) c.as_mut.result.now c.remove_any_vertex.new.dcel c.args.removed.now c.in-Err.why c.removal_status.result c.as_mut.ensures.value
    c.in-Err.ensures.outcome.1 c.in-Err.ensures.outcome.0 c.removal_status.ensures (removal_counts c.in-Err.why))
