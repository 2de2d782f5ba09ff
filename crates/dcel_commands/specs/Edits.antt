-- Which list of elementary edits each command is, and a list of commands.
use Rattle.std.specs.Prelude.{◌≡◌, ℕ, List, [], ◌∷◌, ◌++◌}
use Rattle.dcel_commands.specs.Instructions.{Instruction, command_rule}
use Rattle.dcel_commands.specs.Lists.{Run}
use Rattle.dcel_commands.specs.Responses.{Response}
use Rattle.dcel_maps.specs.EditLists.{EditKind, EditedBy}
use Rattle.dcel_maps.specs.Shapes.{Mesh}

module _ {V DE UE F : Type 0} where
  -- the edits of a command in a mesh, where it is answered so
  abbrev pub edits_of : Mesh V DE UE F → Instruction V → Response V → List EditKind
  edits_of m command reply = (command_rule command).edits m reply

  module _ (is_half : DE → Type 0) (is_edge : UE → Type 0) (is_face : F → Type 0) (limit : ℕ) where
    -- those of the commands of a run, one after another, each in the mesh where its turn comes
    abbrev pub edits_of_run : (old new : Mesh V DE UE F) (commands : List (Instruction V)) (replies : List (Response V))
        → Run is_half is_edge is_face limit old commands replies new → List EditKind
    edits_of_run old new [] [] run = []
    edits_of_run old new [] (reply ∷ replies) run = absurd run
    edits_of_run old new (command ∷ commands) [] run = absurd run
    edits_of_run old new (command ∷ commands) (reply ∷ replies) (middle, takes, rest) =
        edits_of old command reply ++ edits_of_run middle new commands replies rest

    -- the commands before a place in the list are carried out, and the mesh is edited by all that they are
    pub record RunEdits (old : Mesh V DE UE F) (commands : List (Instruction V)) (replies : List (Response V)) (new : Mesh V DE UE F) : Type 0 where
      pub done : List (Instruction V)
      pub left : List (Instruction V)
      pub are : commands ≡ done ++ left
      pub run : Run is_half is_edge is_face limit old done replies new
      pub edits : EditedBy (edits_of_run old new done replies run) old new
