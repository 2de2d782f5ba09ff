-- Statuses. The names of the numbers stand in the header.
use Rattle.dcel_planar.specs.declared.errors.InsertionError.{InsertionError}
use Rattle.dcel_planar.specs.declared.errors.InsertionError.TheVariants as insertion
use Rattle.dcel_delaunay.specs.declared.errors.RemovalError.{RemovalError}
use Rattle.dcel_delaunay.specs.declared.errors.RemovalError.TheVariants as removal
use Rattle.std.specs.Prelude.{ℕ, nat_lt, if◌then◌else◌}

-- whether so many fit
abbrev pub buffer_status : ℕ → ℕ → ℕ
buffer_status needed room = if nat_lt room needed then 22 else 0

abbrev pub insertion_status : InsertionError → ℕ
insertion_status insertion.OutOfRange = 24
insertion_status insertion.TooManyPoints = 19
insertion_status insertion.OutOfMemory = 20
insertion_status insertion.Unfinished = 25

abbrev pub removal_status : RemovalError → ℕ
removal_status removal.NoVertex = 1
removal_status removal.TooManyPoints = 19
removal_status removal.OutOfMemory = 20
removal_status (removal.Unfinished removed) = 25
