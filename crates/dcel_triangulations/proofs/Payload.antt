-- The laws of the triangulation.
use denote.Param.Laws.{Laws}
use Rattle.dcel_delaunay.proofs.triangulation.Triangulation.TheLaws as delaunay
use Rattle.dcel_triangulations.specs.Held.{points_row}
use Rattle.std_heap.proofs.Global.TheLaws as heap
use Rattle.std_heap.specs.contracts.Global as Heap
use Rattle.std_heap.specs.contracts.GlobalAllocator.TheImpl.{ghosts}

abbrev pub points_laws : Laws points_row
points_laws = delaunay.the_row_laws Heap.the_row ghosts heap.the_row_laws
