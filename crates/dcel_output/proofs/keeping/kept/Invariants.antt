use Rattle.std.proofs.Common.{◌≡◌, take}
use Rattle.dcel_output.specs.Keeping.{kept}
use Rattle.dcel_output.proofs.keeping.kept.Given as goal

abbrev pub invariant-loop-place : goal.invariant-loop-place
invariant-loop-place g l = l.list.items ≡ kept l.flags (take l.place l.items)
