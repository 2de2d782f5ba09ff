use Rattle.std.proofs.Common.{ap, rules, Some}
use Rattle.dcel_replay.proofs.replay.Replay.try_clone.Goals as goal
use Rattle.dcel_replay.proofs.replay.Replay.try_clone.Goals.{in-Some+in_ok-try_clone-in-Some, in-None}

pub returns-clause-before : goal.returns-clause-before
returns-clause-before g c = elim c.match-self.branch [
  | in-Some+in_ok-try_clone-in-Some w ↦
      rw (w.before-is, w.in-Some.is) (ap Some (w.in_ok-try_clone-in-Some.ensures.equal (search rules) (search rules) (search rules) (search rules)))
  | in-None w ↦ search rules
]
