-- What stands behind the pointer of a desk that is kept.
use base.Fml.{Fml, ftrue}
use base.Stored.{Coded}
use denote.RattleType.{RattleType}
use denote.RawPtr.{Ptr}
use Rattle.mesh_page.specs.contracts.desk.Desk as Desk
pub use Rattle.mesh_page.specs.declared.desk.Desk.{Desk as State}
use Rattle.lent_heap.specs.Blocks.{block_token}
use Rattle.std.specs.Box.Ownership.{box_owns}
use Rattle.std.specs.Coded.{coded_option}
use Rattle.std.specs.Prelude.{Option, None, Some}

-- what is kept: a desk, or nothing once it was freed and before one was made
abbrev pub Kept : Type 0
Kept = Option State

-- the type of the desk, as the logic names it
abbrev pub desk_row : RattleType
desk_row = Desk.the_row

-- a desk that is kept stands in a block of its heap, with the right to give it back
abbrev pub held_owns : Ptr → Kept → Fml
held_owns p None = ftrue
held_owns p (Some d) = box_owns block_token desk_row p d

abbrev pub kept_coded : Coded Kept
kept_coded = coded_option desk_row.coded
