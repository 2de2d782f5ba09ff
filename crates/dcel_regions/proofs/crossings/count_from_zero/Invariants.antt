use Rattle.std.proofs.Common.{◌≡◌, ◌++◌, ◌-◌, drop, map, take}
use Rattle.dcel_regions.proofs.crossings.count_from_zero.Given as goal

-- the numbers so far are lowered
abbrev pub invariant-loop-number : goal.invariant-loop-number
invariant-loop-number g l = l.number-items ≡ map (λ n. n - 1) (take l.number-index l.fn.numbers.items) ++ drop l.number-index l.fn.numbers.items
