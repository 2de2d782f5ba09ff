use Rattle.std.proofs.Common.{◌≡◌, take}
use Rattle.std.specs.Str.Parse.{AllDigits, digits_value}
use Rattle.dcel_text.proofs.numbers.natural.Given as goal

-- the bytes so far are digits, and their value
abbrev pub invariant-loop-digit : goal.invariant-loop-digit
invariant-loop-digit l = AllDigits 10 (take l.digit-index l.item) × (l.value ≡ digits_value 10 (take l.digit-index l.item))
