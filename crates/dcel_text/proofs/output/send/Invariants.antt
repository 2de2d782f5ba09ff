use Rattle.std.proofs.Common.{◌≡◌, ◌-◌, ◌≤◌, length, take}
use Rattle.std.specs.Io.KnownBytes.{Appends}
use Rattle.dcel_text.proofs.output.send.Given as goal

abbrev pub invariant-loop-at : goal.invariant-loop-at
invariant-loop-at g l = record {
  in_range : l.at ≤ length l.bytes;
  taken : Appends (g.K.LineSink.contents l.fn.sink) (g.K.LineSink.contents l.sink) (take l.at l.bytes);
  calm : g.K.LineSink.has_failed l.sink ≡ g.K.LineSink.has_failed l.fn.sink;
}

abbrev pub decreases-loop-at : goal.decreases-loop-at
decreases-loop-at g l = length l.bytes - l.at
