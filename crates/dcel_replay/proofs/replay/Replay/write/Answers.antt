use Rattle.std.proofs.Common.{sym, ◌∙◌, rules}
use Rattle.dcel_replay.proofs.Written.{sent}
use Rattle.dcel_replay.proofs.replay.Replay.write.Goals as goal

pub returns : goal.returns
returns g c =
    let begun = c.new-out.ensures in
    sent c.write_text.ensures c.flush.ensures.writes begun.sink begun.empty (search rules) c.flush.ensures.empty (sym c.failed.ensures ∙ c.if-failed.false)
