use Rattle.std.proofs.Common.{not}
use Rattle.std.specs.List.{count_by}
use Rattle.dcel_links.proofs.RoundWalks.{Walks}
use Rattle.dcel_links.proofs.rounds.mark_round.Given as goal

abbrev pub invariant-loop-at : goal.invariant-loop-at
invariant-loop-at l = Walks l.steps l.start l.at l.fn.seen l.seen

abbrev pub decreases-loop-at : goal.decreases-loop-at
decreases-loop-at l = count_by not l.seen
