-- Simple meshes, and the corners of their faces.
use Rattle.std.specs.Prelude.{◌≡◌, ◌≢◌, ℕ, ◌+◌, ◌<◌, List, length, map}
use Rattle.dcel_maps.specs.Removals.{Closed}
use Rattle.dcel_maps.specs.Shapes.{IsLive, IsMesh, Mesh, Shape, end_of, face_count, face_of, origin_of}
use Rattle.dcel_maps.specs.Words.{TurnsTo, word_of}
use Rattle.dcel_fixed.specs.HalfEdges.{rev}

-- no two edges join the same two vertices: a half edge is told by where it starts and ends
abbrev pub IsSimple : Shape → Type 0
IsSimple s = (h k : ℕ) → IsLive s h → IsLive s k → origin_of s h ≡ origin_of s k → end_of s h ≡ end_of s k → h ≡ k

-- No removal is open, there are so many vertices, and the words of the inner faces, from number 1 on and each written from some item, start
-- at these corners. Each edge has an inner face at one side at least.
pub record HasCorners (s : Shape) (vertices : ℕ) (faces : List (List ℕ)) : Type 0 where
  pub closed : s.removal ≡ Closed
  pub vertices_are : s.vertices ≡ vertices
  pub faces_are : face_count s ≡ length faces + 1
  pub rounds : List (List ℕ)
  pub turns : (f : ℕ) → f < length faces → TurnsTo (word_of s.words (f + 1)) (word_of rounds f)
  pub corners : map (map (origin_of s)) rounds ≡ faces
  pub inside : (h : ℕ) → IsLive s h → face_of s h ≡ 0 → face_of s (rev h) ≢ 0

-- each simple mesh with these corners, whatever its data, has a shape with this property
abbrev pub EachSimpleMesh : Type 0 → Type 0 → Type 0 → Type 0 → ℕ → List (List ℕ) → (Shape → Type 0) → Type 0
EachSimpleMesh V DE UE F vertices faces P = (m : Mesh V DE UE F) → IsMesh m → IsSimple m.shape → HasCorners m.shape vertices faces → P m.shape

-- no simple mesh has them
abbrev pub NoSimpleMesh : Type 0 → Type 0 → Type 0 → Type 0 → ℕ → List (List ℕ) → Type 0
NoSimpleMesh V DE UE F vertices faces = EachSimpleMesh V DE UE F vertices faces (λ s. ⊥)

-- the outer face passes the vertex a twice: two of its half edges start there
pub record PassesTwice (s : Shape) (a : ℕ) : Type 0 where
  pub one : ℕ
  pub other : ℕ
  pub apart : one ≢ other
  pub one_live : IsLive s one
  pub other_live : IsLive s other
  pub one_outer : face_of s one ≡ 0
  pub other_outer : face_of s other ≡ 0
  pub one_starts : origin_of s one ≡ a
  pub other_starts : origin_of s other ≡ a
