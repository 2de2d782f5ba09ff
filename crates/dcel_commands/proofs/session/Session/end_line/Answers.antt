use Rattle.std.proofs.Common.{◌∙◌}
use Rattle.dcel_commands.proofs.Serving.{serves_kept, serves_whole}
use Rattle.dcel_commands.proofs.session.Session.end_line.Goals as goal

pub returns-then-is_empty-clause-serves : goal.returns-then-is_empty-clause-serves
returns-then-is_empty-clause-serves g c =
    let empty = c.is_empty.ensures.0 c.if-is_empty.true in
    rw (← c.self.view_is) (serves_whole c.args.last.now c.requires.no_feed empty empty c.answer.ensures)

pub returns-else-is_empty-clause-serves : goal.returns-else-is_empty-clause-serves
returns-else-is_empty-clause-serves g c =
    let kept = c.as_slice.ensures ∙ c.add_some.ensures in
    rw (← c.self.view_is) (serves_kept c.args.last.now c.requires.no_feed kept c.clear.ensures c.answer-else-is_empty.ensures)
