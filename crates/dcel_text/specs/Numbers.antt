-- The numbers that a line may have.
use Rattle.std.specs.Prelude.{ℕ, ℤ, ◌<◌, ◌^◌}
use Rattle.std.specs.Int.{w64}
use Rattle.std.specs.Int.RustNames.{FitsSigned}

-- the range of a number that is no datum
abbrev pub IsNumber : ℕ → Type 0
IsNumber n = n < 2 ^ 32

-- the range of a datum
abbrev pub IsDatum : ℤ → Type 0
IsDatum d = FitsSigned w64 d
