-- What is said of links that become a mesh, and of those that are refused.
use Rattle.std.specs.Prelude.{◌≡◌, ◌≢◌, ◌⊎◌, ℕ, ◌/◌, ◌<◌, List, length, Option, Some, None, vec_len}
use Rattle.dcel_edits.specs.Given.{last_anchors, mesh_stored}
use Rattle.dcel_links.specs.Anchors.{AreAnchors, IsAnchor, anchor_of}
use Rattle.dcel_links.specs.Claims.{Claim, claim_of, halves}
use Rattle.dcel_links.specs.Faults.{IsFirst}
use Rattle.dcel_links.specs.Meshes.{NoMesh}
use Rattle.dcel_links.specs.declared.lists.Links.{Links as LinkLists}
use Rattle.dcel_maps.specs.Numbers.{IsLast}
use Rattle.dcel_maps.specs.Shapes.{Mesh, face_anchor, face_count, vertex_anchor}
use Rattle.dcel_store.specs.Lists.{Lists}
use Rattle.spade_dcel.specs.declared.operations.given.Anchors.{Anchors as AnchorLists}
use Rattle.spade_dcel.specs.declared.operations.given.LinksError.{LinksError}
use Rattle.spade_dcel.specs.declared.operations.given.LinksError.TheVariants.{Anchors, Edges, FaceAnchor, Links, OutOfMemory, VertexAnchor}
use Rattle.spade_dcel.specs.declared.operations.given.MeshData.{MeshData}

-- what lists claim of as many vertices and faces as there are data for
abbrev pub claimed : {V DE UE F A : Type 0} → LinkLists → MeshData V DE UE F A → Claim
claimed links given = claim_of links (length given.vertices.items) (length given.faces.items)

-- no mesh has these links and this is the first reason; of memory nothing is said; and that is all that links are refused for
abbrev pub RefusesLinks : Type 0 → Type 0 → Type 0 → Type 0 → Claim → LinksError → Type 0
RefusesLinks V DE UE F c (Links fault) = IsFirst c fault × NoMesh V DE UE F c
RefusesLinks V DE UE F c OutOfMemory = Unit {0}
RefusesLinks V DE UE F c other = ⊥

-- or there are data of other edges than the lists have
abbrev pub Refuses : Type 0 → Type 0 → Type 0 → Type 0 → Claim → ℕ → LinksError → Type 0
Refuses V DE UE F c edges Edges = halves c / 2 ≢ edges
Refuses V DE UE F c edges other = RefusesLinks V DE UE F c other

-- what is given for v is no anchor of it
pub record IsWrong (labels : List ℕ) (anchors : List (Option ℕ)) (v : ℕ) : Type 0 where
  pub below : v < length anchors
  pub wrong : ¬ IsAnchor labels v (anchor_of anchors v)

-- or there are anchors of other vertices or faces, or a wrong one
abbrev pub RefusesAnchored : Type 0 → Type 0 → Type 0 → Type 0 → Claim → ℕ → List (Option ℕ) → List (Option ℕ) → LinksError → Type 0
RefusesAnchored V DE UE F c edges vertices faces Anchors = (length vertices ≢ c.vertices) ⊎ (length faces ≢ c.faces)
RefusesAnchored V DE UE F c edges vertices faces (VertexAnchor v) = IsWrong c.origin vertices v
RefusesAnchored V DE UE F c edges vertices faces (FaceAnchor f) = IsWrong c.face faces f
RefusesAnchored V DE UE F c edges vertices faces other = Refuses V DE UE F c edges other

-- with no anchors given, they are refused as links alone
abbrev pub RefusesGiven : Type 0 → Type 0 → Type 0 → Type 0 → Claim → ℕ → Option AnchorLists → LinksError → Type 0
RefusesGiven V DE UE F c edges None reason = Refuses V DE UE F c edges reason
RefusesGiven V DE UE F c edges (Some anchors) reason = RefusesAnchored V DE UE F c edges anchors.vertices.now anchors.faces.now reason

-- the anchors of vertices and of faces are those of the claim's
pub record AreRight (c : Claim) (vertices faces : List (Option ℕ)) : Type 0 where
  pub of_vertices : length vertices ≡ c.vertices
  pub of_faces : length faces ≡ c.faces
  pub vertices_right : AreAnchors c.origin vertices
  pub faces_right : AreAnchors c.face faces

-- the anchors that are written: those that are given, or the last half edges of so many vertices and faces
abbrev pub vertices_chosen : LinkLists → Option AnchorLists → ℕ → List (Option ℕ)
vertices_chosen links None count = last_anchors links.origin.now count
vertices_chosen links (Some anchors) count = anchors.vertices.now

abbrev pub faces_chosen : LinkLists → Option AnchorLists → ℕ → List (Option ℕ)
faces_chosen links None count = last_anchors links.face.now count
faces_chosen links (Some anchors) count = anchors.faces.now

-- all that is given, with these links backwards, in an empty store
abbrev pub given_stored : {V DE UE F A : Type 0} → Lists V DE UE F → LinkLists → List ℕ → Option AnchorLists → MeshData V DE UE F A → Lists V DE UE F
given_stored s links prev anchors given =
    mesh_stored s links.next.now prev links.origin.now links.face.now
    (vertices_chosen links anchors (vec_len given.vertices)) (faces_chosen links anchors (vec_len given.faces))
    given.vertices.items given.edges.items given.faces.items

-- the mesh has these anchors
abbrev pub HasVertexAnchors : {V DE UE F : Type 0} → LinkLists → Option AnchorLists → Mesh V DE UE F → Type 0
HasVertexAnchors links None m = (v : ℕ) → v < m.shape.vertices → IsLast links.origin.now v (vertex_anchor m v)
HasVertexAnchors links (Some anchors) m = m.vertex_anchors ≡ anchors.vertices.now

abbrev pub HasFaceAnchors : {V DE UE F : Type 0} → LinkLists → Option AnchorLists → Mesh V DE UE F → Type 0
HasFaceAnchors links None m = (f : ℕ) → f < face_count m.shape → IsLast links.face.now f (face_anchor m f)
HasFaceAnchors links (Some anchors) m = m.face_anchors ≡ anchors.faces.now
