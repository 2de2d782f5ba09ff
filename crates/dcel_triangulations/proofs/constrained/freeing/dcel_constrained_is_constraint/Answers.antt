use Rattle.std.proofs.Common.{◌↔◌, ℕ, IsTrue, subst}
use Rattle.dcel_constrained.specs.Constrained.{marked_mesh}
use Rattle.dcel_regions.specs.Marked.{IsMarked}
use Rattle.dcel_triangulations.specs.Calls.{IsSo}
use Rattle.dcel_triangulations.specs.constrained.Held.{Kept, State}
use Rattle.dcel_triangulations.proofs.constrained.freeing.dcel_constrained_is_constraint.Goals as goal

pub returns-clause-answer : goal.returns-clause-answer
returns-clause-answer c =
    let told = c.is_constraint.result in
    subst (λ (kept : Kept). IsTrue told ↔ IsSo (λ (t : State). IsMarked (marked_mesh t) c.args.edge) kept) c.as_mut.ensures.value
    (subst (λ (n : ℕ). IsTrue told ↔ IsMarked (marked_mesh c.as_mut.result.now) n) c.new-edge.ensures c.is_constraint.ensures)
