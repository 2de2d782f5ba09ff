use Rattle.std.proofs.Common.{◌≡◌, ◌+◌, ◌≤◌, take}
use Rattle.std.specs.Str.Parse.{digits_value_after}
use Rattle.dcel_decimals.specs.Digits.{number_of}
use Rattle.dcel_decimals.proofs.digits.Digits.with_all.Given as goal

-- the digits so far, and how many zeros they can have at their end
abbrev pub invariant-loop-digit : goal.invariant-loop-digit
invariant-loop-digit l = (number_of l.so_far ≡ digits_value_after 10 (number_of l.fn.self) (take l.digit-index l.more)) × (l.so_far.zeros ≤ l.fn.self.zeros + l.digit-index)
