use Rattle.std.proofs.Common.{ap, sym, ◌∙◌}
use Rattle.std.proofs.lemmas.Bool.{false≢true}
use Rattle.dcel_commands.specs.Stage.{Stage}
use Rattle.dcel_commands.proofs.Serving.{ends_nothing, ends_line, serves_unbegun, serves_begun}
use Rattle.dcel_commands.proofs.session.Session.finish.Goals as goal

pub returns-then-is_empty-clause-ends : goal.returns-then-is_empty-clause-ends
returns-then-is_empty-clause-ends g c = rw (← c.self.view_is) (ends_nothing (c.is_empty.ensures.0 c.if-is_empty.true))

pub returns-then-is_empty-clause-serves : goal.returns-then-is_empty-clause-serves
returns-then-is_empty-clause-serves g c = rw (← c.self.view_is) (serves_unbegun (c.is_empty.ensures.0 c.if-is_empty.true))

pub returns-clause-ends : goal.returns-clause-ends
returns-clause-ends g c =
    let begun = λ (s : Stage). s.begun in
    ends_line (λ e. false≢true (sym c.if-is_empty.false ∙ c.is_empty.ensures.1 (ap begun c.self.view_is ∙ e))) c.end_line.ensures.empty c.end_line.ensures.serves

pub returns-clause-serves : goal.returns-clause-serves
returns-clause-serves g c =
    let begun = λ (s : Stage). s.begun in
    serves_begun (λ e. false≢true (sym c.if-is_empty.false ∙ c.is_empty.ensures.1 (ap begun c.self.view_is ∙ e))) c.end_line.ensures.serves
