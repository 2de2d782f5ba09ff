use Rattle.std.proofs.Common.{◌↔◌, ℕ, IsTrue, subst}
use Rattle.dcel_constrained.specs.Constrained.{marked_mesh}
use Rattle.dcel_constrained.specs.Soundness.{AreConstrained}
use Rattle.dcel_triangulations.specs.Calls.{IsSo}
use Rattle.dcel_triangulations.specs.constrained.Held.{Kept, State}
use Rattle.dcel_triangulations.proofs.constrained.freeing.dcel_constrained_exists_constraint.Goals as goal

pub returns-clause-answer : goal.returns-clause-answer
returns-clause-answer c =
    let told = c.exists_constraint.result in
    let m = marked_mesh c.as_mut.result.now in
    subst (λ (kept : Kept). IsTrue told ↔ IsSo (λ (t : State). AreConstrained (marked_mesh t) c.args.from c.args.to) kept) c.as_mut.ensures.value
    (subst (λ (v : ℕ). IsTrue told ↔ AreConstrained m v c.args.to) c.new-from.ensures
    (subst (λ (w : ℕ). IsTrue told ↔ AreConstrained m c.new-from.result w) c.new-to.ensures c.exists_constraint.ensures))
