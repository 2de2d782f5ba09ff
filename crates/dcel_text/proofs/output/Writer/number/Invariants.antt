use Rattle.std.proofs.Common.{◌≡◌, ◌+◌, ◌<◌, ◌≤◌, ◌++◌, length, drop}
use Rattle.std.specs.Fmt.{decimal}
use Rattle.dcel_text.proofs.output.Writer.number.Given as goal

abbrev pub invariant-loop-high : goal.invariant-loop-high
invariant-loop-high g l = record {
  slots : length l.slot ≡ 20;
  in_range : l.at < 20;
  room : length (decimal l.high) ≤ l.at + 1;
  whole : decimal l.n ≡ decimal l.high ++ drop (l.at + 1) l.slot;
}

abbrev pub decreases-loop-high : goal.decreases-loop-high
decreases-loop-high g l = l.high
