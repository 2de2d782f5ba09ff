-- What stands behind the pointer of a constrained triangulation that is kept.
use base.Fml.{Fml, ftrue}
use base.Stored.{Coded}
use denote.RattleType.{RattleType}
use denote.RawPtr.{Ptr}
use Rattle.dcel_constrained.specs.contracts.triangulation.ConstrainedTriangulation as Points
use Rattle.dcel_constrained.specs.declared.triangulation.ConstrainedTriangulation.{ConstrainedTriangulation}
use Rattle.std.specs.Box.Ownership.{box_owns}
use Rattle.std.specs.Coded.{coded_option}
use Rattle.std.specs.Global.{Global}
use Rattle.std.specs.Prelude.{Option, None, Some}
use Rattle.std_heap.specs.contracts.Global as Heap
use Rattle.std_heap.specs.contracts.GlobalAllocator.TheImpl.{ghosts}

-- a constrained triangulation on the heap, as contracts see it
abbrev pub State : Type 0
State = ConstrainedTriangulation Global

-- what is kept: one, or nothing once it was freed and before one was made
abbrev pub Kept : Type 0
Kept = Option State

-- its type, as the logic names it
abbrev pub constrained_row : RattleType
constrained_row = Points.the_row Heap.the_row ghosts

-- one that is kept stands in a block of the heap, with the right to free it
abbrev pub held_owns : Global → Ptr → Kept → Fml
held_owns alloc p None = ftrue
held_owns alloc p (Some t) = box_owns (ghosts.dealloc_token alloc) constrained_row p t

abbrev pub kept_coded : Coded Kept
kept_coded = coded_option constrained_row.coded
