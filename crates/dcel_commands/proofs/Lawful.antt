-- What is shown of each command: the files in `lines` have one of these records each.
use Rattle.std.proofs.Common.{◌≡◌, ◌⊎◌, ℕ, ◌+◌, ◌≤◌, ◌^◌, true, ap, ◌∙◌, arith, subst, sym}
use Rattle.dcel_commands.specs.Conditions.{AreWithin}
use Rattle.dcel_commands.specs.Edits.{edits_of}
use Rattle.dcel_commands.specs.Instructions.{Instruction}
use Rattle.dcel_commands.specs.OneRemoval.{record_after}
use Rattle.dcel_commands.specs.Responses.{Response}
use Rattle.dcel_commands.specs.Steps.{Legal, Step, asks}
use Rattle.dcel_commands.specs.Triangles.{LeavesLonger}
use Rattle.dcel_commands.proofs.Columns.{is_column}
use Rattle.dcel_maps.specs.Conditions.{HasRoom}
use Rattle.dcel_maps.specs.EditLists.{EditedBy}
use Rattle.dcel_maps.specs.Removals.{Removal}
use Rattle.dcel_maps.specs.Shapes.{IsMesh, Mesh, Shape, face_count}
use Rattle.dcel_maps.specs.Triangulations.{AllTriangles}

-- the command is legal, and carried out with this reply
pub record IsDone {V DE UE F : Type 0} (is_half : DE → Type 0) (is_edge : UE → Type 0) (is_face : F → Type 0) (limit : ℕ) (m : Mesh V DE UE F) (command : Instruction V) (reply : Response V) (new : Mesh V DE UE F) : Type 0 where
  pub legal : Legal m.shape limit command
  pub step : Step is_half is_edge is_face m command reply new

-- its conditions ascend; it is its elementary edits; it keeps inner faces triangles, but for two uses; and what it does with the removal
-- record
pub record Lawful {V : Type 0} (command : Instruction V) : Type 1 where
  pub column : (limit : ℕ) → is_column 1 (asks limit command) ≡ true
  pub edits : {DE UE F : Type 0} {is_half : DE → Type 0} {is_edge : UE → Type 0} {is_face : F → Type 0} {limit : ℕ} {reply : Response V} (m new : Mesh V DE UE F)
      → IsMesh m → IsDone is_half is_edge is_face limit m command reply new → limit ≤ 2 ^ 31 → EditedBy (edits_of m command reply) m new
  pub triangles : {DE UE F : Type 0} {is_half : DE → Type 0} {is_edge : UE → Type 0} {is_face : F → Type 0} {limit : ℕ} {reply : Response V} (m new : Mesh V DE UE F)
      → IsMesh m → IsDone is_half is_edge is_face limit m command reply new → AllTriangles m.shape → AllTriangles new.shape ⊎ LeavesLonger m.shape command
  pub removal : {DE UE F : Type 0} {is_half : DE → Type 0} {is_edge : UE → Type 0} {is_face : F → Type 0} {limit : ℕ} {reply : Response V} (m new : Mesh V DE UE F)
      → IsDone is_half is_edge is_face limit m command reply new → new.shape.removal ≡ record_after m command

-- ---- what several need

-- room within a limit is room for numbers
pub room : (s : Shape) (limit vertices edges faces : ℕ) → limit ≤ 2 ^ 31 → AreWithin limit (s.vertices + vertices) (s.edges + edges) (face_count s + faces)
    → HasRoom s vertices edges faces
room s limit vertices edges faces small within =
    let few = within.few_vertices in
    let less = within.few_edges in
    let small_count = within.few_faces in
    record { for_vertices = omega arith; for_edges = omega arith; for_faces = omega arith }

module _ {V DE UE F : Type 0} where
  abbrev pub shape_of : Mesh V DE UE F → Shape
  shape_of m = m.shape

  -- the triangles and the record of an edited mesh
  pub all_triangles : (new edit : Mesh V DE UE F) → new ≡ edit → AllTriangles edit.shape → AllTriangles new.shape
  all_triangles new edit is three = subst (λ (t : Mesh V DE UE F). AllTriangles t.shape) (sym is) three

  pub record_of : (new edit : Mesh V DE UE F) (r : Removal) → new ≡ edit → edit.shape.removal ≡ r → new.shape.removal ≡ r
  record_of new edit r is record_is = ap (λ (t : Mesh V DE UE F). t.shape.removal) is ∙ record_is
