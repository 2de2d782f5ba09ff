use Rattle.std.proofs.Common.{ℕ, ◌<◌, ◌≤◌, All, take}
use Rattle.dcel_floats.specs.Floats.{IsFinite}
use Rattle.dcel_floats.specs.Grids.{FitsGrid}
use Rattle.dcel_floats.proofs.grid.Grid.fit.Given as goal

-- the numbers so far are finite and fit, and all fit no finer grid
abbrev pub invariant-loop-number : goal.invariant-loop-number
invariant-loop-number l =
    record { bound : l.power < 2046; finite : All IsFinite (take l.number-index l.numbers); fits : All (FitsGrid l.power) (take l.number-index l.numbers); finest : (k : ℕ) → All (FitsGrid k) l.numbers → l.power ≤ k }
