use Rattle.dcel_replay.proofs.Texts.{answers_line}
use Rattle.dcel_replay.proofs.replay.Replay.answer.Goals as goal

pub returns-clause-text : goal.returns-clause-text
returns-clause-text g c =
    answers_line c.args.line.now c.in_ok-answer.answer c.args.self.now.mesh c.args.self.now.before c.hear.new.self.mesh c.hear.new.self.before c.in_ok-answer.ensures.answered
