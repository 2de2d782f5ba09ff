use Rattle.std.proofs.Common.{ℕ, ◌≤◌, All, take}
use Rattle.dcel_decimals.specs.Grids.{FitsGrid}
use Rattle.dcel_decimals.proofs.grid.Grid.fit.Given as goal

-- the decimals so far fit, and all fit no finer grid
abbrev pub invariant-loop-decimal : goal.invariant-loop-decimal
invariant-loop-decimal l =
    record { bound : l.halvings ≤ 106; fits : All (FitsGrid l.halvings) (take l.decimal-index l.decimals); finest : (k : ℕ) → k ≤ 106 → All (FitsGrid k) l.decimals → k ≤ l.halvings }
