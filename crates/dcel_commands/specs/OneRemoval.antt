-- A removal from its opening to its end, among other commands.
use Rattle.std.specs.Prelude.{◌≡◌, ℕ, ◌-◌, Bool, true, false, List, All, Option, Some, None, reverse}
use Rattle.dcel_commands.specs.Instructions.{Instruction, Triangle, Isolate, Remesh, Strip, Cleanup, Remove, Clear}
use Rattle.dcel_commands.specs.Lists.{Run, Takes}
use Rattle.dcel_commands.specs.Responses.{Response, Opened}
use Rattle.dcel_maps.specs.Regions.{inside}
use Rattle.dcel_maps.specs.Removals.{Removal, Closed, ascending, opened_with}
use Rattle.dcel_maps.specs.Renumbered.{AreNumbered, LeavesLive, new_face, new_half}
use Rattle.dcel_maps.specs.Renumbering.{cleaned, edges_taken_out, faces_taken_out, moved, vertex_taken_out, with_removal}
use Rattle.dcel_maps.specs.Shapes.{Mesh, Shape, origin_of}
use Rattle.dcel_maps.specs.edits.Fill.{edges_at, faces_at}
use Rattle.dcel_maps.specs.edits.Strip.{strip_edges, strip_faces, strip_half}

-- the vertex that an opening gives up, if there is one
abbrev pub vertex_given_up : {V : Type 0} → Shape → Instruction V → Option ℕ
vertex_given_up s (Isolate v hs) = Some v
vertex_given_up s (Remesh hs us fs) = inside s hs us fs
vertex_given_up s (Strip hs) = Some (origin_of s (strip_half s hs))
vertex_given_up s _ = None

-- the record that a command leaves: an opening writes what it gives up, cleanup the vertex that is still there, if there was one; a removal
-- is closed by its last command, and where the mesh is replaced; and no other command writes it
abbrev pub record_after : {V DE UE F : Type 0} → Mesh V DE UE F → Instruction V → Removal
record_after m (Triangle x y z) = Closed
record_after m (Isolate v hs) = opened_with (edges_at m v) (faces_at m v) (Some v)
record_after m (Remesh hs us fs) = opened_with us fs (inside m.shape hs us fs)
record_after m (Strip hs) = opened_with (strip_edges m.shape hs) (strip_faces m.shape hs) (Some (origin_of m.shape (strip_half m.shape hs)))
record_after m (Cleanup us fs) = cleaned m.shape.removal
record_after m (Remove v) = Closed
record_after m Clear = Closed
record_after m _ = m.shape.removal

-- a command that neither ends an open removal nor takes it further
abbrev pub stands_between : {V : Type 0} → Instruction V → Bool
stands_between (Triangle x y z) = false
stands_between (Cleanup us fs) = false
stands_between (Remove v) = false
stands_between Clear = false
stands_between _ = true

-- these numbers, from the largest down
abbrev pub down : List ℕ → List ℕ
down numbers = reverse (ascending numbers)

module _ {V DE UE F : Type 0} (is_half : DE → Type 0) (is_edge : UE → Type 0) (is_face : F → Type 0) (limit : ℕ) where
  -- a removal is opened, and answered with the edges and faces that it gives up
  pub record Opens (old : Mesh V DE UE F) (edges faces : List ℕ) (vertex : Option ℕ) (new : Mesh V DE UE F) : Type 0 where
    pub command : Instruction V
    pub new_edges : List ℕ
    pub least : ℕ
    pub takes : Takes is_half is_edge is_face limit old command (Opened edges faces new_edges least) new
    pub gone : vertex ≡ vertex_given_up old.shape command

  -- other commands are carried out
  pub record GoesOn (old new : Mesh V DE UE F) : Type 0 where
    pub commands : List (Instruction V)
    pub replies : List (Response V)
    pub run : Run is_half is_edge is_face limit old commands replies new
    pub others : All (λ command. stands_between command ≡ true) commands

module _ {V DE UE F : Type 0} where
  -- the removal is cleaned up: the record is still that of the opening, the lists name its edges and faces, in any order, and these are
  -- taken out. What is live keeps its words, origins and data, under the numbers of the places where the old numbers stand then
  pub record CleansUp (old : Mesh V DE UE F) (edges faces given_edges given_faces : List ℕ) (vertex : Option ℕ) (new : Mesh V DE UE F) : Type 0 where
    pub same : old.shape.removal ≡ opened_with edges faces vertex
    pub same_edges : ascending given_edges ≡ ascending edges
    pub same_faces : ascending given_faces ≡ ascending faces
    pub is : new ≡ with_removal (faces_taken_out (edges_taken_out old (down edges)) (down faces)) (cleaned (opened_with edges faces vertex))
    pub live : LeavesLive old new (new_half old.shape) (λ v. v) (new_face old.shape)
    pub numbers : AreNumbered old.shape

  -- it is closed: its vertex is taken out, and the last one gets its number
  pub record Closes (old : Mesh V DE UE F) (vertex given : ℕ) (new : Mesh V DE UE F) : Type 0 where
    pub same : given ≡ vertex
    pub is : new ≡ vertex_taken_out old vertex
    pub live : LeavesLive old new (λ h. h) (moved (old.shape.vertices - 1) vertex) (λ f. f)
