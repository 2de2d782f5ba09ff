use Rattle.std.proofs.Common.{take}
use Rattle.dcel_delaunay.specs.Bulk.{AnswersEach}
use Rattle.dcel_delaunay.specs.Triangulated.{mesh_in}
use Rattle.dcel_output.specs.Numbering.{IsNearestNumbered}
use Rattle.dcel_output.proofs.nearest.nearest_numbers.Given as goal

abbrev pub invariant-loop-place : goal.invariant-loop-place
invariant-loop-place g l = AnswersEach (IsNearestNumbered (mesh_in l.triangulation) l.numbers) (take l.place-index l.places) l.list.items
