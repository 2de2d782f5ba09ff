-- What commands and queries ask of a mesh, and which refusal answers where one of these conditions isn't met.
use Rattle.std.specs.Prelude.{◌≡◌, ◌≢◌, ◌⊎◌, ℕ, ◌+◌, ◌*◌, ◌<◌, ◌≤◌, true, List, [], ◌∷◌, All, Contains, MatchResult, Result}
use Rattle.dcel_commands.specs.declared.refusal.Refusal.{Refusal}
use Rattle.dcel_commands.specs.Refusal.{refusal_number}
use Rattle.dcel_maps.specs.Borders.{IsBorderLoop}
use Rattle.dcel_maps.specs.Regions.{IsRing}
use Rattle.dcel_maps.specs.Conditions.{IsUnconnected, IsLineEnd, IsTriangle, IsBridge, CanFlip, CanCloseOutside, CanSwapRemove}
use Rattle.dcel_maps.specs.Degenerate.{CanRemoveDegenerate}
use Rattle.dcel_maps.specs.Removals.{Removal, Closed, Isolated, Cleaned, IsListed}
use Rattle.dcel_maps.specs.Shapes.{Shape, IsLive, vertex_is_live, edge_is_live, face_is_live, face_count, face_of}
use Rattle.dcel_maps.specs.Strips.{IsEdgeStrip}

-- what may be asked
pub data Condition : Type 0 where
  VertexInRange : ℕ → Condition
  HalfEdgeInRange : ℕ → Condition
  EdgeInRange : ℕ → Condition
  InnerFaceInRange : ℕ → Condition
  VertexLive : ℕ → Condition
  HalfEdgeLive : ℕ → Condition
  EdgeLive : ℕ → Condition
  FaceLive : ℕ → Condition
  Different : ℕ → ℕ → Condition
  Unconnected : ℕ → Condition
  NoEdge : Condition
  LineEnd : ℕ → Condition
  ThreeHalves : ℕ → Condition
  OnTriangle : ℕ → Condition
  Bridge : ℕ → Condition
  OnOuterFace : ℕ → Condition
  ClosesOutside : ℕ → Condition
  Flips : ℕ → Condition
  HalfEdgesInRange : List ℕ → Condition
  EdgesInRange : List ℕ → Condition
  InnerFacesInRange : List ℕ → Condition
  NoneOpen : Condition
  NoOtherOpen : ℕ → Condition
  NotCleaned : Condition
  Listed : List ℕ → List ℕ → Condition
  StripOfVertex : List ℕ → Condition
  BorderOf : List ℕ → ℕ → Condition
  RingOf : List ℕ → List ℕ → List ℕ → Condition
  Removable : ℕ → Condition
  OfPath : ℕ → Condition
  RoomFor : ℕ → ℕ → ℕ → ℕ → Condition
  RoomForMesh : ℕ → ℕ → ℕ → ℕ → Condition

-- so many vertices, edges and faces pass no limit
pub record AreWithin (limit vertices edges faces : ℕ) : Type 0 where
  pub few_vertices : vertices ≤ limit
  pub few_edges : edges ≤ limit
  pub few_faces : faces ≤ limit

-- no removal is open, or the vertex alone is still given up
abbrev pub LeavesAtMost : ℕ → Removal → Type 0
LeavesAtMost v Closed = Unit {0}
LeavesAtMost v (Isolated edges faces vertex) = ⊥
LeavesAtMost v (Cleaned w) = w ≡ v

-- a removal is open and not yet cleaned up
abbrev pub IsIsolated : Removal → Type 0
IsIsolated Closed = ⊥
IsIsolated (Isolated edges faces vertex) = Unit {0}
IsIsolated (Cleaned w) = ⊥

-- the shape meets the condition. Room for more elements, or for a mesh of its own, is there where no count passes the limit
abbrev pub Meets : Shape → Condition → Type 0
Meets s (VertexInRange v) = v < s.vertices
Meets s (HalfEdgeInRange h) = h < 2 * s.edges
Meets s (EdgeInRange u) = u < s.edges
Meets s (InnerFaceInRange f) = (0 < f) × (f < face_count s)
Meets s (VertexLive v) = vertex_is_live s v ≡ true
Meets s (HalfEdgeLive h) = IsLive s h
Meets s (EdgeLive u) = edge_is_live s u ≡ true
Meets s (FaceLive f) = face_is_live s f ≡ true
Meets s (Different a b) = a ≢ b
Meets s (Unconnected v) = IsUnconnected s v
Meets s NoEdge = s.edges ≡ 0
Meets s (LineEnd v) = IsLineEnd s v
Meets s (ThreeHalves f) = IsTriangle s f
Meets s (OnTriangle h) = IsTriangle s (face_of s h)
Meets s (Bridge h) = IsBridge s h
Meets s (OnOuterFace h) = face_of s h ≡ 0
Meets s (ClosesOutside h) = CanCloseOutside s h
Meets s (Flips u) = CanFlip s u
Meets s (HalfEdgesInRange hs) = All (λ h. h < 2 * s.edges) hs
Meets s (EdgesInRange us) = All (λ u. u < s.edges) us
Meets s (InnerFacesInRange fs) = All (λ f. (0 < f) × (f < face_count s)) fs
Meets s NoneOpen = s.removal ≡ Closed
Meets s (NoOtherOpen v) = LeavesAtMost v s.removal
Meets s NotCleaned = IsIsolated s.removal
Meets s (Listed us fs) = IsListed s.removal us fs
Meets s (StripOfVertex hs) = IsEdgeStrip s hs
Meets s (BorderOf hs v) = IsBorderLoop s hs v
Meets s (RingOf hs us fs) = IsRing s hs us fs
Meets s (Removable v) = CanSwapRemove s v
Meets s (OfPath v) = CanRemoveDegenerate s v
Meets s (RoomFor limit vertices edges faces) = AreWithin limit (s.vertices + vertices) (s.edges + edges) (face_count s + faces)
Meets s (RoomForMesh limit vertices edges faces) = AreWithin limit vertices edges faces

-- a condition after the refusal that answers where it isn't met
abbrev pub Entry : Type 0
Entry = Refusal × Condition

-- each condition is met
abbrev pub AllMet : Shape → List Entry → Type 0
AllMet s [] = Unit {0}
AllMet s (entry ∷ rest) = Meets s entry.1 × AllMet s rest

-- the first condition that isn't met has this refusal
abbrev pub FirstUnmet : Shape → List Entry → Refusal → Type 0
FirstUnmet s [] why = ⊥
FirstUnmet s (entry ∷ rest) why =
    ((¬ Meets s entry.1) × (why ≡ entry.0)) ⊎ (Meets s entry.1 × FirstUnmet s rest why)

-- each is met, or the first that isn't refuses
abbrev pub PassesOrRefuses : {U : Type 0} → Shape → List Entry → Result U Refusal → Type 0
PassesOrRefuses s entries result = MatchResult result (λ _. AllMet s entries) (λ why. FirstUnmet s entries why)

-- the number of the refusal of an entry
abbrev pub entry_number : Entry → ℕ
entry_number entry = refusal_number entry.0

-- no condition that isn't met has a refusal of a lower number
abbrev pub IsLeast : Shape → List Entry → Refusal → Type 0
IsLeast s entries why =
    (refusal : Refusal) (condition : Condition) → Contains entries (refusal, condition) → ¬ Meets s condition → refusal_number why ≤ refusal_number refusal

-- some condition that is asked and isn't met has this refusal
pub record IsReason (s : Shape) (entries : List Entry) (why : Refusal) : Type 0 where
  pub condition : Condition
  pub asked : Contains entries (why, condition)
  pub unmet : ¬ Meets s condition

-- exactly one refusal answers: that of the first condition that isn't met
pub record IsRefused (s : Shape) (entries : List Entry) : Type 0 where
  pub why : Refusal
  pub first : FirstUnmet s entries why
  pub no_other : (other : Refusal) → FirstUnmet s entries other → other ≡ why
  pub reason : IsReason s entries why
