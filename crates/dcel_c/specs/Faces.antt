-- Meshes of faces with their corners.
use Rattle.dcel_c.specs.Calls.{IsZero}
use Rattle.dcel_c.specs.Faults.{faces_fault, other_count}
use Rattle.dcel_c.specs.Held.{State}
use Rattle.dcel_c.specs.declared.fault.DcelFault.{DcelFault}
use Rattle.dcel_exchange.specs.Meshes.{HasFaces}
use Rattle.dcel_exchange.specs.Reasons.{Leaves, Means}
use Rattle.dcel_exchange.specs.Simple.{HasCorners, IsSimple}
use Rattle.dcel_exchange.specs.declared.refusal.FacesError.{FacesError}
use Rattle.dcel_exchange.specs.declared.refusal.FacesError.TheVariants.{OutOfMemory}
use Rattle.dcel_maps.specs.Removals.{Closed}
use Rattle.std.specs.Prelude.{◌≡◌, ◌≢◌, ◌⊎◌, ℕ, All, List, [], ◌∷◌, drop, length, sum, take}

-- the row cut into faces with so many corners each
abbrev pub cut : List ℕ → List ℕ → List (List ℕ)
cut [] corners = []
cut (n ∷ counts) corners = take n corners ∷ cut counts (drop n corners)

-- the mesh has these faces behind the outer one, and these data of vertices; all others are 0
pub record IsOfFaces (vertices : List ℕ) (faces : List (List ℕ)) (mesh : State) : Type 0 where
  pub has_faces : HasFaces mesh.shape (length vertices) faces
  pub has_corners : HasCorners mesh.shape (length vertices) faces
  pub simple : IsSimple mesh.shape
  pub closed : mesh.shape.removal ≡ Closed
  pub vertex_data : mesh.vertex_data ≡ vertices
  pub halves : All IsZero mesh.directed_data
  pub edges : All IsZero mesh.undirected_data
  pub face_data : All IsZero mesh.face_data

-- what the reason says of these faces is so, and so is what it says of meshes
pub record RefusesFaces (vertices : ℕ) (faces : List (List ℕ)) (reason : FacesError) : Type 0 where
  pub means : Means vertices faces reason
  pub leaves : Leaves ℕ ℕ ℕ ℕ vertices faces reason

-- the counts don't add up, or they do and this is told of a reason other than memory
abbrev pub NoFaces : ℕ → List ℕ → List ℕ → DcelFault → Type 0
NoFaces vertices corners counts told =
    ((sum counts ≢ length corners) × (told ≡ other_count))
    ⊎ ((sum counts ≡ length corners) × ((reason : FacesError) × RefusesFaces vertices (cut counts corners) reason × (reason ≢ OutOfMemory) × (told ≡ faces_fault reason)))
