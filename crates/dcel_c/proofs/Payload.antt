-- The laws of the mesh.
use mathlib.Core.Path.{refl}
use denote.Builtin.{u64}
use denote.Param.Laws.{Laws, of_field}
use denote.Param.Shared.{copy_shared}
use denote.Struct.Field.{u64-field}
use denote.Struct.Laws.{u64-laws, u64-copy}
use Rattle.dcel_c.specs.Held.{mesh_row}
use Rattle.spade_dcel.proofs.dcel.Dcel.TheLaws as dcel
use Rattle.std_heap.proofs.Global.TheLaws as heap
use Rattle.std_heap.specs.contracts.Global as Heap
use Rattle.std_heap.specs.contracts.GlobalAllocator.TheImpl.{ghosts}

abbrev pub number_laws : Laws u64
number_laws = of_field u64-field u64-laws refl (copy_shared u64-field u64-copy)

abbrev pub mesh_laws : Laws mesh_row
mesh_laws = dcel.the_row_laws u64 u64 u64 u64 Heap.the_row ghosts number_laws number_laws number_laws number_laws heap.the_row_laws
