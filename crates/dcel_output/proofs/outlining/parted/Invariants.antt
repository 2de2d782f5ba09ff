use Rattle.std.proofs.Common.{◌≡◌, ◌≤◌, ℕ, List, length, take}
use Rattle.std.specs.List.{AllZip}
use Rattle.dcel_output.specs.Constraining.{IsChain}
use Rattle.dcel_output.specs.Outlining.{MarksOdd, passes}
use Rattle.dcel_output.proofs.outlining.parted.Given as goal

abbrev pub invariant-loop-number : goal.invariant-loop-number
invariant-loop-number g l = record {
  shape : l.parted.shape ≡ l.mesh.shape;
  chains : List (List ℕ);
  are : AllZip (IsChain l.mesh l.vertices) (take l.number l.sides) chains;
  marks : MarksOdd l.parted (passes chains);
  within : l.number ≤ length l.sides;
}
