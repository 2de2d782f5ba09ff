use Rattle.std.proofs.Common.{◌≡◌, ◌++◌, List, ℕ, length}
use Rattle.dcel_commands.specs.Stage.{Serves}
use Rattle.dcel_commands.proofs.session.Session.feed.Given as goal

-- a front of the piece was answered
abbrev pub invariant-loop-line : goal.invariant-loop-line
invariant-loop-line g l = record {
  front : List ℕ;
  whole : l.fn.piece ≡ front ++ l.rest;
  served : Serves g.K.LineSink.has_failed g.K.LineSink.contents l.limit l.fn.self l.self front l.fn.out l.out;
}

abbrev pub decreases-loop-line : goal.decreases-loop-line
decreases-loop-line g l = length l.rest
