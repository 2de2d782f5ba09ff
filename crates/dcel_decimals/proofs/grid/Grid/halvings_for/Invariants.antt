use Rattle.std.proofs.Common.{ℕ, ◌≤◌}
use Rattle.dcel_decimals.specs.Grids.{FitsGrid}
use Rattle.dcel_decimals.proofs.grid.Grid.halvings_for.Given as goal

-- the decimal fits no finer grid
abbrev pub invariant-loop-halvings : goal.invariant-loop-halvings
invariant-loop-halvings l = record { bound : l.halvings ≤ l.fn.most; finest : (k : ℕ) → k ≤ l.fn.most → FitsGrid k l.decimal → k ≤ l.halvings }

abbrev pub decreases-loop-halvings : goal.decreases-loop-halvings
decreases-loop-halvings l = l.halvings
