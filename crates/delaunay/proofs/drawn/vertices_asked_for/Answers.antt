use Rattle.std.proofs.Common.{inl, inr}
use Rattle.std.proofs.lemmas.Result.{IfOk-weaker}
use Rattle.delaunay.proofs.drawn.vertices_asked_for.Goals as goal

pub returns-then-has_constraints : goal.returns-then-has_constraints
returns-then-has_constraints c = IfOk-weaker c.each_there.result _ _ (λ all is has. is) c.each_there.ensures

pub returns-else-has_constraints : goal.returns-else-has_constraints
returns-else-has_constraints c = λ has.
    let neither = c.has_constraints.ensures.some c.if-has_constraints.false in
    absurd (elim has [
      | inl some ↦ some neither.0
      | inr some ↦ some neither.1
    ])
