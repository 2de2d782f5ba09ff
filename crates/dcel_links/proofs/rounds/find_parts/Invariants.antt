use Rattle.dcel_links.proofs.Parts.{Rounds}
use Rattle.dcel_links.proofs.rounds.find_parts.Given as goal

abbrev pub invariant-loop-start : goal.invariant-loop-start
invariant-loop-start l = Rounds l.steps l.labels l.start l.seen l.used
