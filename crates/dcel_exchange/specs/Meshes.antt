-- Meshes that have given faces, and their links.
use Rattle.std.specs.Prelude.{◌≡◌, ◌≢◌, ℕ, suc, ◌+◌, ◌*◌, ◌^◌, ◌<◌, ◌≤◌, List, [], ◌∷◌, length, map, slice_index, slice_index_or}
use Rattle.dcel_fixed.specs.HalfEdges.{rev}
use Rattle.dcel_links.specs.Claims.{Claim, HasLists, halves}
use Rattle.dcel_maps.specs.Maps.{count}
use Rattle.dcel_maps.specs.Numbers.{numbers_between}
use Rattle.dcel_maps.specs.Shapes.{Shape, face_count, origin_of}
use Rattle.dcel_maps.specs.Words.{TurnsTo, word_of}
use Rattle.dcel_exchange.specs.Corners.{IsNumbered, LeadsBack, afters, ends, is_first, owners, starts}
use Rattle.dcel_exchange.specs.Numbering.{AreDistinct}

-- how many sides there are, and how many edges
abbrev pub side_count : List (List ℕ) → ℕ
side_count faces = length (starts faces)

abbrev pub edge_count : List (List ℕ) → ℕ
edge_count faces = count (is_first (starts faces) (ends faces)) (side_count faces)

-- the sides of each face, the first of which has the number p, are the word of the face f, and of those after it
abbrev pub AreWords : List (List ℕ) → (ℕ → ℕ) → ℕ → ℕ → List (List ℕ) → Type 0
AreWords words number f p [] = Unit {0}
AreWords words number f p (w ∷ ws) =
    TurnsTo (word_of words f) (map number (numbers_between p (p + length w))) × AreWords words number (suc f) (p + length w) ws

-- The mesh has these faces, from number 1 on: the word of each is that of its sides, which start at its corners. Edges are numbered in the
-- order in which their first sides come.
pub record HasFaces (s : Shape) (vertices : ℕ) (faces : List (List ℕ)) : Type 0 where
  pub number : ℕ → ℕ
  pub numbered : IsNumbered (starts faces) (ends faces) number
  pub vertices_are : s.vertices ≡ vertices
  pub edges_are : s.edges ≡ edge_count faces
  pub faces_are : face_count s ≡ length faces + 1
  pub corners : (p : ℕ) → p < side_count faces → origin_of s (number p) ≡ slice_index (starts faces) p
  pub words : AreWords s.words number 1 0 faces

-- the half edge h is the number of no side
abbrev pub IsNoSide : List (List ℕ) → (ℕ → ℕ) → ℕ → Type 0
IsNoSide faces number h = (p : ℕ) → p < side_count faces → number p ≢ h

-- the half edge h is the other half of a side, and no side leads back from that one
pub record IsBeyond (faces : List (List ℕ)) (number : ℕ → ℕ) (h : ℕ) : Type 0 where
  pub side : ℕ
  pub within : side < side_count faces
  pub turn : rev (number side) ≡ h
  pub alone : (q : ℕ) → q < side_count faces → ¬ LeadsBack (starts faces) (ends faces) side q

-- These are links of half edges for the sides of the faces, numbered so: each side is followed by the next one of its face, and no two have
-- the same ends. What is no side lies on the outer face, beyond a side that none leads back from, and is followed by what is no side and starts where it ends, if there is one.
pub record AreLinks (vertices : ℕ) (faces : List (List ℕ)) (c : Claim) : Type 0 where
  pub long : (f : ℕ) → f < length faces → 3 ≤ length (slice_index_or faces f [])
  pub few : side_count faces ≤ 2 ^ 31
  pub distinct : AreDistinct (starts faces) (ends faces) (side_count faces)
  pub number : ℕ → ℕ
  pub numbered : IsNumbered (starts faces) (ends faces) number
  pub lists : HasLists c
  pub vertices_are : c.vertices ≡ vertices
  pub half_edges : halves c ≡ 2 * edge_count faces
  pub faces_are : c.faces ≡ length faces + 1
  pub below : (p : ℕ) → p < side_count faces → number p < halves c
  pub one_to_one : (p q : ℕ) → p < side_count faces → q < side_count faces → number p ≡ number q → p ≡ q
  pub next : (p : ℕ) → p < side_count faces → slice_index c.next (number p) ≡ number (slice_index (afters 0 faces) p)
  pub start : (p : ℕ) → p < side_count faces → slice_index c.origin (number p) ≡ slice_index (starts faces) p
  pub end : (p : ℕ) → p < side_count faces → slice_index c.origin (rev (number p)) ≡ slice_index (ends faces) p
  pub face : (p : ℕ) → p < side_count faces → slice_index c.face (number p) ≡ slice_index (owners 0 faces) p + 1
  pub border : (h : ℕ) → h < halves c → IsNoSide faces number h → slice_index c.face h ≡ 0
  pub beyond : (h : ℕ) → h < halves c → IsNoSide faces number h → IsBeyond faces number h
  pub around : (h k : ℕ) → h < halves c → k < halves c → IsNoSide faces number h → IsNoSide faces number k
      → slice_index c.origin k ≡ slice_index c.origin (rev h) → slice_index c.next h ≡ k
