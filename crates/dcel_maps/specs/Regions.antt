-- Regions: inner faces that the edges between them join to one, with no vertex inside, and the rings round them. Rings of either kind.
use Rattle.std.specs.Prelude.{◌≡◌, ◌≢◌, ℕ, suc, ◌/◌, ◌<◌, ◌≤◌, ◌==◌, true, cond, List, length, reverse, Option, Some, None}
use Rattle.dcel_fixed.specs.HalfEdges.{rev}
use Rattle.dcel_maps.specs.Borders.{GivesUpRound, IsBorderLoop, IsVertexRing, StartsAlone, center_of}
use Rattle.dcel_maps.specs.Removals.{opened}
use Rattle.dcel_maps.specs.Shapes.{Shape, IsLive, edge_is_live, face_is_live, face_of, next_of}
use Rattle.dcel_maps.specs.theory.Cycles.{IsCycle}
use Rattle.dcel_maps.specs.Walking.{ListsOnce}
use Rattle.dcel_maps.specs.Words.{count_of}

-- The way past the edges: from h to the half edge after it, and while that is a half of a listed edge, to the one after its other half.
pub data LeadsPast (next : ℕ → ℕ) (edges : List ℕ) : ℕ → ℕ → Type 0 where
  on : {h k : ℕ} → next h ≡ k → count_of (k / 2) edges ≡ 0 → LeadsPast next edges h k
  past : {h j k : ℕ} → next h ≡ j → 0 < count_of (j / 2) edges → LeadsPast next edges (rev j) k → LeadsPast next edges h k

-- Different live inner faces, and different live edges, one fewer, each with its halves on two different ones of the faces.
pub record IsRegion (s : Shape) (edges faces : List ℕ) : Type 0 where
  pub edges_once : (u : ℕ) → count_of u edges ≤ 1
  pub faces_once : (f : ℕ) → count_of f faces ≤ 1
  pub fewer : length faces ≡ suc (length edges)
  pub inner : (f : ℕ) → 0 < count_of f faces → (0 < f) × (face_is_live s f ≡ true)
  pub live : (u : ℕ) → 0 < count_of u edges → edge_is_live s u ≡ true
  pub between : (h : ℕ) → 0 < count_of (h / 2) edges → (0 < count_of (face_of s h) faces) × (face_of s h ≢ face_of s (rev h))

-- a live half edge on one of the faces, and of none of the edges
pub record IsRim (s : Shape) (edges faces : List ℕ) (h : ℕ) : Type 0 where
  pub live : IsLive s h
  pub on_face : 0 < count_of (face_of s h) faces
  pub unlisted : count_of (h / 2) edges ≡ 0

-- The ring of a region: read from its end, the list leads round past the edges, and has each half edge of the faces that is none of theirs,
-- once; they are three or more, and the last item of the list starts where no other one does.
pub record IsRegionRing (s : Shape) (border edges faces : List ℕ) : Type 0 where
  pub region : IsRegion s edges faces
  pub many : 3 ≤ length border
  pub ring : IsCycle (LeadsPast (next_of s) edges) (reverse border)
  pub whole : ListsOnce (IsRim s edges faces) (reverse border)
  pub alone : StartsAlone s (reverse border)

-- the ring of a vertex, or of a region
pub data IsRing (s : Shape) (border edges faces : List ℕ) : Type 0 where
  of_vertex : IsVertexRing s border edges faces → IsRing s border edges faces
  of_region : IsRegionRing s border edges faces → IsRing s border edges faces

-- the vertex inside a ring: a vertex has as many edges as faces round it, and a region, which has none, has a face more
abbrev pub inside : Shape → List ℕ → List ℕ → List ℕ → Option ℕ
inside s border edges faces = cond (length edges == length faces) (Some (center_of s border)) None

-- these edges and faces, and this vertex if there is one, lie inside a border
abbrev pub LiesInside : Shape → List ℕ → List ℕ → List ℕ → Option ℕ → Type 0
LiesInside s border edges faces None = IsRegionRing s border edges faces
LiesInside s border edges faces (Some v) = IsBorderLoop s border v × GivesUpRound s v (opened edges faces v)
