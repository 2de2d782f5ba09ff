-- What calls find, and what they answer.
use Rattle.dcel_maps.specs.Shapes.{Shape, edge_is_live}
use Rattle.dcel_maps.specs.edits.Create.{IsNew}
use Rattle.dcel_c.specs.Held.{Kept, State}
use Rattle.dcel_c.specs.declared.mesh.DcelMesh.{DcelMesh}
use Rattle.std.specs.Prelude.{◌≡◌, ℕ, ◌-◌, ◌/◌, ◌^◌, Some, None, nat_lt, if◌then◌else◌}

-- the mesh that C's pointer leads to
abbrev pub kept_in : DcelMesh → Kept
kept_in mesh = mesh.held.kept

-- what answers where there is no element
abbrev pub nowhere : ℕ
nowhere = 2 ^ 64 - 1

-- a datum that a default gives
abbrev pub IsZero : ℕ → Type 0
IsZero n = n ≡ 0

-- there is a mesh, and this is so of it
abbrev pub IsSo : (State → Type 0) → Kept → Type 0
IsSo holds None = ⊥
IsSo holds (Some mesh) = holds mesh

-- an empty mesh is kept
abbrev pub HasNewMesh : Kept → Type 0
HasNewMesh = IsSo (IsNew IsZero)

-- a count of the mesh, or 0
abbrev pub count_in : (Shape → ℕ) → Kept → ℕ
count_in count None = 0
count_in count (Some mesh) = count mesh.shape

-- the number that belongs to the element n of so many, if there is such an element
abbrev pub number_in : (Shape → ℕ) → (State → ℕ → ℕ) → Kept → ℕ → ℕ
number_in count number None n = nowhere
number_in count number (Some mesh) n = if nat_lt n (count mesh.shape) then number mesh n else nowhere

-- the link of a half edge, if it is live
abbrev pub link_in : (Shape → ℕ → ℕ) → Kept → ℕ → ℕ
link_in link None h = nowhere
link_in link (Some mesh) h = if edge_is_live mesh.shape (h / 2) then link mesh.shape h else nowhere

-- the status of a call about the element n of so many: it is carried out, or there is no such element or no mesh
abbrev pub status_in : (Shape → ℕ) → ℕ → Kept → ℕ → ℕ
status_in count no_such None n = 21
status_in count no_such (Some mesh) n = if nat_lt n (count mesh.shape) then 0 else no_such
