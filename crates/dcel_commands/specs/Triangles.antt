-- Lists of commands over meshes of triangles.
use Rattle.std.specs.Prelude.{◌≡◌, ◌⊎◌, ℕ, ◌<◌, List, ◌∷◌, ◌++◌, map, Result, Ok, Err, Vec}
use Rattle.dcel_commands.specs.declared.commands.lists.StoppedAt.{StoppedAt}
use Rattle.dcel_commands.specs.declared.commands.reply.Reply.{Reply}
use Rattle.dcel_commands.specs.Instructions.{Instruction, Half, Outside}
use Rattle.dcel_commands.specs.Lists.{Run}
use Rattle.dcel_commands.specs.Responses.{Response, response}
use Rattle.dcel_fixed.specs.HalfEdges.{rev}
use Rattle.dcel_maps.specs.Shapes.{Mesh, Shape, face_of}
use Rattle.dcel_maps.specs.Triangulations.{AllTriangles}

-- a command that leaves an inner face with a half edge more: a face is put beside a half edge of an inner face, or one side of an edge
-- is split whose other half lies on an inner face
abbrev pub LeavesLonger : {V : Type 0} → Shape → Instruction V → Type 0
LeavesLonger s (Outside h b) = 0 < face_of s h
LeavesLonger s (Half h b) = 0 < face_of s (rev h)
LeavesLonger s _ = ⊥

-- the replies to the commands that were carried out
abbrev pub replies_of : {V A B : Type 0} → Result (Vec (Reply V A) B) (StoppedAt V A B) → List (Response V)
replies_of (Ok replies) = map response replies.items
replies_of (Err stopped) = map response stopped.done.items

module _ {V DE UE F : Type 0} (is_half : DE → Type 0) (is_edge : UE → Type 0) (is_face : F → Type 0) (limit : ℕ) where
  -- of a list some commands are carried out, up to any place, and such a one is among them, at a mesh that those before it leave
  pub record HasLonger (old : Mesh V DE UE F) (commands : List (Instruction V)) (replies : List (Response V)) (new : Mesh V DE UE F) : Type 0 where
    pub before : List (Instruction V)
    pub command : Instruction V
    pub after : List (Instruction V)
    pub left : List (Instruction V)
    pub are : commands ≡ before ++ command ∷ (after ++ left)
    pub done : List (Response V)
    pub to_come : List (Response V)
    pub answered : replies ≡ done ++ to_come
    pub middle : Mesh V DE UE F
    pub run : Run is_half is_edge is_face limit old before done middle
    pub longer : LeavesLonger middle.shape command
    pub rest : Run is_half is_edge is_face limit middle (command ∷ after) to_come new

  -- where each live inner face is a triangle, it is so afterwards, or there was such a command
  abbrev pub TrianglesStay : Mesh V DE UE F → List (Instruction V) → List (Response V) → Mesh V DE UE F → Type 0
  TrianglesStay old commands replies new = AllTriangles old.shape → AllTriangles new.shape ⊎ HasLonger old commands replies new
