use Rattle.std.proofs.Common.{ℕ, List, Option, ap, subst}
use Rattle.std.proofs.lemmas.Result.{IfOk-weaker}
use Rattle.delaunay.specs.Answers.{AnswersTask}
use Rattle.delaunay.proofs.Ended.{nothing_ahead}
use Rattle.delaunay.proofs.ending.write_answer.Goals as goal

pub returns-in-Ok : goal.returns-in-Ok
returns-in-Ok g c =
    IfOk-weaker c.write_buffered.result _ _
    (λ done follows adds none.
    subst (λ (old : Option (List ℕ)). AnswersTask c.args.arguments.now c.args.task.now old (g.W.Write.contents done))
    (nothing_ahead _ _ _ (ap g.W.Write.contents c.in-Ok.ensures.inner) c.in-Ok.ensures.empty) (follows adds none))
    c.write_buffered.ensures
