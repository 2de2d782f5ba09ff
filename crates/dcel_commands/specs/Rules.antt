-- What each line says of itself: a command has one of these records in its file in `request`, a query in `Queries`.
use Rattle.std.specs.Prelude.{ℕ, ℤ, Bool, List}
use Rattle.dcel_commands.specs.declared.commands.reply.Handed.{Handed}
use Rattle.dcel_commands.specs.Conditions.{Entry}
use Rattle.dcel_commands.specs.Facts.{Fact}
use Rattle.dcel_commands.specs.Grammar.{Item}
use Rattle.dcel_commands.specs.Responses.{Response}
use Rattle.dcel_maps.specs.EditLists.{EditKind}
use Rattle.dcel_maps.specs.Shapes.{Mesh}

-- of a command: the word that it is written with and what stands after it; what it asks under a limit, in the order of checking;
-- whether it may be refused for want of memory; which elementary edits it is in a mesh, where it is answered so; the data that come back
-- when it is refused; and which reply and mesh it makes of a mesh, with default data for new half edges, edges and faces
pub record CommandRule (V : Type 0) : Type 1 where
  pub word : List ℕ
  pub given : List (Item V)
  pub asks : ℕ → List Entry
  pub takes_memory : Bool
  pub edits : {DE UE F : Type 0} → Mesh V DE UE F → Response V → List EditKind
  pub handed : Handed V
  pub Makes : {DE UE F : Type 0} → (DE → Type 0) → (UE → Type 0) → (F → Type 0) → Mesh V DE UE F → Response V → Mesh V DE UE F → Type 0

-- the mesh that lines are about: all data are numbers
abbrev pub State : Type 0
State = Mesh ℤ ℤ ℤ ℤ

-- of a query: how it is written, what it asks, and what it is told of a mesh
pub record QueryRule : Type 1 where
  pub word : List ℕ
  pub given : List (Item ℤ)
  pub asks : List Entry
  pub Tells : {V DE UE F : Type 0} → Mesh V DE UE F → Fact V → Type 0
