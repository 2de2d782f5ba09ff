-- Statuses. The names of the numbers stand in the header.
use Rattle.dcel_constrained.specs.declared.errors.ConstraintError.{ConstraintError}
use Rattle.dcel_constrained.specs.declared.errors.ConstraintError.TheVariants as constraint
use Rattle.dcel_planar.specs.declared.errors.InsertionError.{InsertionError}
use Rattle.dcel_planar.specs.declared.errors.InsertionError.TheVariants as insertion
use Rattle.dcel_delaunay.specs.declared.errors.RemovalError.{RemovalError}
use Rattle.dcel_delaunay.specs.declared.errors.RemovalError.TheVariants as removal
use Rattle.lent_heap.specs.declared.heap.Heap.{Heap}
use Rattle.std.specs.Prelude.{ℕ}
use denote.Ref.{Bor}

abbrev pub insertion_status : InsertionError → ℕ
insertion_status insertion.OutOfRange = 3
insertion_status insertion.TooManyPoints = 7
insertion_status insertion.OutOfMemory = 2
insertion_status insertion.Unfinished = 5

abbrev pub removal_status : RemovalError → ℕ
removal_status removal.NoVertex = 6
removal_status removal.TooManyPoints = 7
removal_status removal.OutOfMemory = 2
removal_status (removal.Unfinished removed) = 5

abbrev pub constraint_status : ConstraintError (Bor Heap) → ℕ
constraint_status constraint.NoVertex = 6
constraint_status (constraint.Blocked edges) = 8
constraint_status constraint.OutOfMemory = 2
