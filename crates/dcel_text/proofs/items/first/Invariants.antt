use Rattle.std.proofs.Common.{◌≡◌, take, drop}
use Rattle.dcel_text.specs.Items.{items_of}
use Rattle.dcel_text.proofs.Cutting.{ahead}
use Rattle.dcel_text.proofs.items.first.Given as goal

-- the bytes so far belong to the first item
abbrev pub invariant-loop-i : goal.invariant-loop-i
invariant-loop-i l = items_of l.bytes ≡ ahead (take l.i l.bytes) (items_of (drop l.i l.bytes))
