-- Meshes with links that are given.
use Rattle.dcel_c.specs.Calls.{IsZero}
use Rattle.dcel_c.specs.Faults.{links_fault}
use Rattle.dcel_c.specs.Held.{State}
use Rattle.dcel_c.specs.declared.fault.DcelFault.{DcelFault}
use Rattle.dcel_c.specs.declared.links.DcelHalfEdge.{DcelHalfEdge}
use Rattle.dcel_links.specs.Claims.{Claim, claim}
use Rattle.dcel_links.specs.Faults.{IsFirst}
use Rattle.dcel_links.specs.Meshes.{IsLinked, NoMesh}
use Rattle.dcel_links.specs.declared.fault.LinksFault.{LinksFault}
use Rattle.dcel_maps.specs.Numbers.{IsLast}
use Rattle.dcel_maps.specs.Shapes.{IsMesh, face_anchor, face_count, vertex_anchor}
use Rattle.std.specs.Prelude.{◌≡◌, ◌<◌, ℕ, All, List, length, map}

-- what half edges claim of so many vertices and faces; what stands before each one isn't read
abbrev pub claimed : List DcelHalfEdge → ℕ → ℕ → Claim
claimed half_edges vertices faces =
    claim (map (λ half. half.next) half_edges) (map (λ half. half.origin) half_edges) (map (λ half. half.face) half_edges) vertices faces

-- The mesh has these links, as no other has, and these data. Those of half edges and edges are 0. Anchors are the last half edges.
pub record IsGiven (half_edges : List DcelHalfEdge) (vertices faces : List ℕ) (mesh : State) : Type 0 where
  pub links : IsLinked mesh.shape (claimed half_edges (length vertices) (length faces))
  pub only : (m : State) → IsMesh m → IsLinked m.shape (claimed half_edges (length vertices) (length faces)) → m.shape ≡ mesh.shape
  pub vertex_data : mesh.vertex_data ≡ vertices
  pub face_data : mesh.face_data ≡ faces
  pub halves : All IsZero mesh.directed_data
  pub edges : All IsZero mesh.undirected_data
  pub vertex_anchors : (v : ℕ) → v < mesh.shape.vertices → IsLast (map (λ half. half.origin) half_edges) v (vertex_anchor mesh v)
  pub face_anchors : (f : ℕ) → f < face_count mesh.shape → IsLast (map (λ half. half.face) half_edges) f (face_anchor mesh f)

-- no mesh has these links, and what is told is the first that is wrong with them
pub record NoLinks (half_edges : List DcelHalfEdge) (vertices faces : List ℕ) (told : DcelFault) : Type 0 where
  pub fault : LinksFault
  pub first : IsFirst (claimed half_edges (length vertices) (length faces)) fault
  pub none : NoMesh ℕ ℕ ℕ ℕ (claimed half_edges (length vertices) (length faces))
  pub said : told ≡ links_fault fault
