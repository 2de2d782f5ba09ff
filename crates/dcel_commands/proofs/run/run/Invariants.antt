use Rattle.std.proofs.Common.{◌≡◌, [], List, ℕ, false}
use Rattle.std.specs.Io.KnownBytes.{Consumes}
use Rattle.dcel_commands.specs.Stage.{Serves}
use Rattle.dcel_commands.proofs.Ending.{origin}
use Rattle.dcel_commands.proofs.run.run.Given as goal

abbrev pub invariant-loop-session : goal.invariant-loop-session
invariant-loop-session g l = record {
  bytes : List ℕ;
  read : Consumes (g.S.LineSource.remaining l.fn.source) (g.S.LineSource.remaining l.source) bytes;
  served : Serves g.K.LineSink.has_failed g.K.LineSink.contents l.limit origin l.session bytes l.initial.out l.out;
  empty : l.out.held ≡ [];
  source_calm : g.S.LineSource.has_failed l.source ≡ false;
  sink_calm : g.K.LineSink.has_failed l.out.sink.now ≡ false;
}

abbrev pub decreases-loop-session : goal.decreases-loop-session
decreases-loop-session g l = g.S.LineSource.calls_left l.source
