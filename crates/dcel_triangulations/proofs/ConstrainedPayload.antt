-- The laws of the constrained triangulation.
use denote.Param.Laws.{Laws}
use Rattle.dcel_constrained.proofs.triangulation.ConstrainedTriangulation.TheLaws as constrained
use Rattle.dcel_triangulations.specs.constrained.Held.{constrained_row}
use Rattle.std_heap.proofs.Global.TheLaws as heap
use Rattle.std_heap.specs.contracts.Global as Heap
use Rattle.std_heap.specs.contracts.GlobalAllocator.TheImpl.{ghosts}

abbrev pub constrained_laws : Laws constrained_row
constrained_laws = constrained.the_row_laws Heap.the_row ghosts heap.the_row_laws
