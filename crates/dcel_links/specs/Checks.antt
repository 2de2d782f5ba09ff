-- What each check of a claim finds, where it finds no fault.
use Rattle.std.specs.Prelude.{◌≡◌, ◌≢◌, ◌⊎◌, ℕ, ◌+◌, ◌/◌, ◌<◌, List, [], length, slice_index}
use Rattle.dcel_fixed.specs.HalfEdges.{rev}
use Rattle.dcel_maps.specs.Maps.{By, NextOrRev, Reaches, count, starts_edge}
use Rattle.dcel_maps.specs.theory.Sound.{has_word}
use Rattle.dcel_links.specs.Claims.{Claim, HasFewFaces, HasLists, IsFew, claimed_map, halves}
use Rattle.dcel_links.specs.Faults.{TwoLead, turned}
use Rattle.dcel_links.specs.Stages.{Stage, place, Connection, Euler, FaceCount, FaceRounds, Fitting, Leading, Lengths, OuterFace, Ranges, Sizes, UsedFaces, VertexRounds}

-- each number of the list is below the bound
abbrev pub AreBelow : ℕ → List ℕ → Type 0
AreBelow bound list = (h : ℕ) → h < length list → slice_index list h < bound

-- the links of a claim are numbers in range
pub record InRange (c : Claim) : Type 0 where
  pub next : AreBelow (halves c) c.next
  pub origin : AreBelow c.vertices c.origin
  pub face : AreBelow c.faces c.face

-- prev leads back where next leads
abbrev pub Undoes : List ℕ → List ℕ → Type 0
Undoes next prev = (h : ℕ) → h < length next → slice_index prev (slice_index next h) ≡ h

-- edges have two ends, what comes next starts where a half edge ends, and lies on its face
pub record Fit (c : Claim) : Type 0 where
  pub two_ends : (h : ℕ) → h < halves c → slice_index c.origin h ≢ slice_index c.origin (rev h)
  pub joined : (h : ℕ) → h < halves c → slice_index c.origin (slice_index c.next h) ≡ slice_index c.origin (rev h)
  pub same_face : (h : ℕ) → h < halves c → slice_index c.face (slice_index c.next h) ≡ slice_index c.face h

-- steps lead from each number below n to each other one with its label
abbrev pub IsWhole : ℕ → (ℕ → ℕ) → (ℕ → ℕ) → Type 0
IsWhole n step label = (x y : ℕ) → x < n → y < n → label x ≡ label y → Reaches (By step) x y

abbrev pub HasWholeFaces : Claim → Type 0
HasWholeFaces c = IsWhole (halves c) (λ h. slice_index c.next h) (λ h. slice_index c.face h)

abbrev pub HasWholeVertices : Claim → Type 0
HasWholeVertices c = IsWhole (halves c) (turned c.next) (λ h. slice_index c.origin h)

-- each face that is to have a half edge has one
abbrev pub UsesFaces : Claim → Type 0
UsesFaces c = (f : ℕ) → f < c.faces → (0 < f) ⊎ (0 < halves c) → (h : ℕ) × (h < halves c) × (slice_index c.face h ≡ f)

-- all is reached from half edge 0
abbrev pub IsOne : Claim → Type 0
IsOne c = (h : ℕ) → h < halves c → Reaches (NextOrRev (claimed_map c [])) 0 h

-- Euler's formula
abbrev pub HasEuler : Claim → Type 0
HasEuler c = 0 < halves c → count (starts_edge (claimed_map c [])) c.vertices + count (has_word (claimed_map c [])) c.faces ≡ halves c / 2 + 2

-- what is of the links one by one
pub record PassesLinks (c : Claim) (prev : List ℕ) : Type 0 where
  pub lists : HasLists c
  pub in_range : InRange c
  pub undone : Undoes c.next prev
  pub fit : Fit c

-- the links one by one, with some list of links backwards
pub record HasLinks (c : Claim) : Type 0 where
  pub prev : List ℕ
  pub links : PassesLinks c prev

-- and in whole rounds
pub record HasRounds (c : Claim) : Type 0 where
  pub each : HasLinks c
  pub whole_faces : HasWholeFaces c
  pub whole_vertices : HasWholeVertices c

-- the links all together
pub record PassesWhole (c : Claim) : Type 0 where
  pub whole_faces : HasWholeFaces c
  pub whole_vertices : HasWholeVertices c
  pub uses : UsesFaces c
  pub one : IsOne c
  pub euler : HasEuler c

-- what the check of each stage finds where it finds no fault
abbrev pub Finds : Claim → Stage → Type 0
Finds c Lengths = HasLists c
Finds c Sizes = IsFew c
Finds c OuterFace = 0 < c.faces
Finds c FaceCount = HasFewFaces c
Finds c Ranges = InRange c
Finds c Leading = (h : ℕ) → ¬ TwoLead c.next h
Finds c Fitting = Fit c
Finds c FaceRounds = HasWholeFaces c
Finds c VertexRounds = HasWholeVertices c
Finds c UsedFaces = UsesFaces c
Finds c Connection = IsOne c
Finds c Euler = HasEuler c

-- the claim comes to a stage: the checks before it have found no fault
pub record ComesTo (c : Claim) (s : Stage) : Type 0 where
  pub found : (before : Stage) → place before < place s → Finds c before
