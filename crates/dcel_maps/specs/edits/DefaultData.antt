-- Edits that come with the data of new half edges, edges and faces: that these are default data is said beside the edit.
use Rattle.std.specs.Prelude.{◌≡◌, ℕ, ◌*◌, List, length, All}

-- the data of so many new edges and faces: two for the halves of each edge, one for itself, one for a face
pub record NewData (DE UE F : Type 0) (edges faces : ℕ) : Type 0 where
  pub directed_data : List DE
  pub undirected_data : List UE
  pub face_data : List F
  pub directed_count : length directed_data ≡ 2 * edges
  pub undirected_count : length undirected_data ≡ edges
  pub face_data_count : length face_data ≡ faces

-- an edit that adds so many edges and faces, with default data
pub record AddsEdgesAndFaces {X DE UE F : Type 0} (is_half : DE → Type 0) (is_edge : UE → Type 0) (is_face : F → Type 0) (edges faces : ℕ) (new : X) (edit : List DE → List UE → List F → X) : Type 0 where
  pub added : NewData DE UE F edges faces
  pub open added use *
  pub directed_default : All is_half directed_data
  pub undirected_default : All is_edge undirected_data
  pub face_default : All is_face face_data
  pub is : new ≡ edit directed_data undirected_data face_data

-- an edit that adds one edge, with default data for its two halves and for itself
abbrev pub AddsEdge : {X DE UE : Type 0} → (DE → Type 0) → (UE → Type 0) → X → (List DE → List UE → X) → Type 0
AddsEdge is_half is_edge new edit =
    AddsEdgesAndFaces {F = Unit {0}} is_half is_edge (λ face. Unit {0}) 1 0 new (λ halves edges faces. edit halves edges)
