-- Claimed meshes: lists of links, and when they are those of a mesh. Two half edges are an edge, cycles of `next` are the faces, and
-- cycles of the half edges out of one point the vertices; a mesh is one connected surface, and Euler's formula makes that a sphere.
use Rattle.std.specs.Prelude.{◌≡◌, ℕ, ◌+◌, ◌/◌, ◌%◌, ◌<◌, ◌≤◌, ◌^◌, true, List, length, slice_index}
use Rattle.dcel_maps.specs.Maps.{Map}
use Rattle.dcel_maps.specs.Removals.{Closed, gives_up_edge, is_live}
use Rattle.dcel_maps.specs.theory.Sound.{Sound, Sphere, has_word}
use Rattle.dcel_links.specs.declared.lists.Links.{Links}

-- how many vertices and faces there are, and of each half edge the next one round its face, the vertex it starts at, and its face
pub record Claim : Type 0 where
  pub vertices : ℕ
  pub faces : ℕ
  pub next : List ℕ
  pub origin : List ℕ
  pub face : List ℕ

abbrev pub claim : List ℕ → List ℕ → List ℕ → ℕ → ℕ → Claim
claim next origin face vertices faces = record { vertices = vertices; faces = faces; next = next; origin = origin; face = face }

-- what lists claim of so many vertices and faces
abbrev pub claim_of : Links → ℕ → ℕ → Claim
claim_of links vertices faces = claim links.next.now links.origin.now links.face.now vertices faces

-- how many half edges there are
abbrev pub halves : Claim → ℕ
halves c = length c.next

-- the map of the links, with these links backwards: no edge is given up
abbrev pub claimed_map : Claim → List ℕ → Map
claimed_map c prev = record {
  vertices = c.vertices;
  edges = halves c / 2;
  faces = c.faces;
  edge = is_live (gives_up_edge Closed) (halves c / 2);
  next = λ h. slice_index c.next h;
  prev = λ h. slice_index prev h;
  origin = λ h. slice_index c.origin h;
  face = λ h. slice_index c.face h;
}

-- the lists have an item for each half of each edge
pub record HasLists (c : Claim) : Type 0 where
  pub even : halves c % 2 ≡ 0
  pub origins : length c.origin ≡ halves c
  pub sides : length c.face ≡ halves c

-- there are no more of a kind than a mesh can have
pub record IsFew (c : Claim) : Type 0 where
  pub vertices : c.vertices ≤ 2 ^ 32
  pub half_edges : halves c ≤ 2 ^ 32
  pub faces : c.faces ≤ 2 ^ 32

-- no more faces than edges and two, as Euler's formula has it
abbrev pub HasFewFaces : Claim → Type 0
HasFewFaces c = c.faces ≤ halves c / 2 + 2

-- with these links backwards, the links are those of a mesh: the lists and numbers fit, the map is sound and a sphere, each inner
-- face has a half edge, and the outer one has where an edge stands
pub record IsMeshOf (c : Claim) (prev : List ℕ) : Type 0 where
  pub lists : HasLists c
  pub backwards : length prev ≡ halves c
  pub few : IsFew c
  pub sound : Sound (claimed_map c prev)
  pub sphere : Sphere (claimed_map c prev)
  pub some_face : 0 < c.faces
  pub inner : (f : ℕ) → 0 < f → f < c.faces → has_word (claimed_map c prev) f ≡ true
  pub outer : 0 < halves c → has_word (claimed_map c prev) 0 ≡ true
