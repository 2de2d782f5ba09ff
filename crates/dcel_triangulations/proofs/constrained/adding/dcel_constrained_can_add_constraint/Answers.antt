use Rattle.std.proofs.Common.{◌↔◌, ℕ, IsTrue, subst}
use Rattle.dcel_constrained.specs.Constrained.{marked_mesh}
use Rattle.dcel_constrained.specs.Soundness.{CanAdd}
use Rattle.dcel_triangulations.specs.Calls.{IsSo}
use Rattle.dcel_triangulations.specs.constrained.Held.{Kept, State}
use Rattle.dcel_triangulations.proofs.constrained.adding.dcel_constrained_can_add_constraint.Goals as goal

pub returns-clause-done : goal.returns-clause-done
returns-clause-done c =
    let m = marked_mesh c.as_mut-kept.result.now in
    let can : IsTrue c.can_add_constraint.result ↔ CanAdd m c.args.from c.args.to =
    subst (λ (v : ℕ). IsTrue c.can_add_constraint.result ↔ CanAdd m v c.args.to) c.vertex.ensures
    (subst (λ (w : ℕ). IsTrue c.can_add_constraint.result ↔ CanAdd m c.vertex.result w) c.vertex-2.ensures c.can_add_constraint.ensures) in
    λ _.
    subst (λ (kept : Kept). IsSo (λ (t : State). IsTrue c.can_add_constraint.result ↔ CanAdd (marked_mesh t) c.args.from c.args.to) kept) c.as_mut-kept.ensures.value can
