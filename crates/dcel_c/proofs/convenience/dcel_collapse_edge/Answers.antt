use Rattle.std.proofs.Common.{ℕ, Some, subst}
use Rattle.dcel_convenience.specs.Collapsing.{MayNotCollapse}
use Rattle.dcel_c.specs.Calls.{kept_in}
use Rattle.dcel_c.specs.Convenience.{Collapses, IsCollapsed, status_of_collapse}
use Rattle.dcel_c.proofs.Ended.{carried_out, is_none, no_mesh, refused_so, collapse_counts}
use Rattle.dcel_c.proofs.convenience.dcel_collapse_edge.Goals as goal

pub returns-then-not-mesh : goal.returns-then-not-mesh
returns-then-not-mesh c =
    no_mesh (λ was is told. IsCollapsed was c.args.edge is told) (λ was why. MayNotCollapse was.shape c.args.edge why) status_of_collapse
    (kept_in c.args.mesh.now) c.args.removed.now (is_none (kept_in c.args.mesh.now) c.args.mesh.now.is_open c.args.mesh.now.agrees c.if-not-mesh.true)

pub returns-in-Ok : goal.returns-in-Ok
returns-in-Ok c =
    let it = c.in-Ok.ensures in
    subst (λ (n : ℕ). Collapses (kept_in c.args.mesh.now) n (Some c.collapse_edge.new.dcel) c.args.removed.now c.removed_in.result 0) c.new-half.ensures
    (carried_out (λ was is told. IsCollapsed was c.new-half.result is told) (λ was why. MayNotCollapse was.shape c.new-half.result why) status_of_collapse
    (kept_in c.args.mesh.now) c.as_mut.result.now c.collapse_edge.new.dcel c.args.removed.now c.removed_in.result c.as_mut.ensures.value
    (record { can = it.can; room = it.room; edit = it.edit; simple = it.simple; taken = c.in-Ok.taken; returned = it.returned; said = c.removed_in.ensures }))

pub returns-in-Err : goal.returns-in-Err
returns-in-Err c =
    subst (λ (n : ℕ). Collapses (kept_in c.args.mesh.now) n (Some c.collapse_edge.new.dcel) c.args.removed.now c.args.removed.now c.collapse_status.result) c.new-half.ensures
    (refused_so (λ was is told. IsCollapsed was c.new-half.result is told) (λ was why. MayNotCollapse was.shape c.new-half.result why) status_of_collapse
    (kept_in c.args.mesh.now) c.as_mut.result.now c.collapse_edge.new.dcel c.args.removed.now c.in-Err.why c.collapse_status.result c.as_mut.ensures.value
    c.in-Err.ensures.refused c.in-Err.ensures.why c.collapse_status.ensures (collapse_counts c.in-Err.why))
