-- Which vertices can be removed wherever they lie, what is left, and why others can't be.
use Rattle.std.specs.Prelude.{◌≡◌, ◌≢◌, ℕ, ◌<◌, List, ◌∷◌, ◌++◌, length, Result, Ok, Err}
use Rattle.dcel_convenience.specs.Collapsing.{CanCollapse, HasRoomToCollapse}
use Rattle.dcel_convenience.specs.Removing.{Returns, TakesOut, border_from}
use Rattle.dcel_convenience.specs.Simple.{IsSimple}
use Rattle.dcel_convenience.specs.Surrounding.{HasLongFace, IsCut, IsOnBorder, IsSurrounded}
use Rattle.dcel_convenience.specs.declared.anywhere.WayOut.{WayOut}
use Rattle.dcel_convenience.specs.declared.anywhere.WayOut.TheVariants.{Alone, Border, Inside, LastEdge}
use Rattle.dcel_convenience.specs.declared.collapsing.WhyNotCollapsed.{WhyNotCollapsed}
use Rattle.dcel_convenience.specs.declared.collapsing.WhyNotCollapsed.TheVariants as collapsing
use Rattle.dcel_convenience.specs.declared.removing.WhyNotRemoved.{WhyNotRemoved}
use Rattle.dcel_convenience.specs.declared.removing.WhyNotRemoved.TheVariants.{CutVertex, LongFace, NoRoom, NoVertex, NotInside, OutOfMemory, RemovalOpen, SecondEdge, ShortBorder}
use Rattle.dcel_maps.specs.Conditions.{IsUnconnected}
use Rattle.dcel_maps.specs.Degenerate.{CanRemoveDegenerate}
use Rattle.dcel_maps.specs.Removals.{Closed}
use Rattle.dcel_maps.specs.Renumbering.{cleaned_up, vertex_taken_out}
use Rattle.dcel_maps.specs.Shapes.{Mesh, Shape}
use Rattle.dcel_maps.specs.Strips.{IsStripAround, strip_of}
use Rattle.dcel_maps.specs.Walking.{IsOutEdge, out_edges_of}
use Rattle.dcel_maps.specs.Words.{count_of, word_of}
use Rattle.dcel_maps.specs.edits.Degenerate.{removed_degenerate}
use Rattle.dcel_maps.specs.edits.Strip.{strip_cut}
use Rattle.spade_dcel.specs.declared.operations.results.RemovalResult.{RemovalResult}

-- v is an end of the only edge, and no vertex is without an edge
pub record IsLastEdge (s : Shape) (v : ℕ) : Type 0 where
  pub alone : s.edges ≡ 1
  pub can : CanRemoveDegenerate s v

-- there is a vertex v, and no removal is open
abbrev pub IsThere : Shape → ℕ → Type 0
IsThere s v = (v < s.vertices) × (s.removal ≡ Closed)

-- the reason not to remove a vertex, from the reason not to collapse its edge
abbrev pub reason_of : WhyNotCollapsed → WhyNotRemoved
reason_of collapsing.RemovalOpen = RemovalOpen
reason_of collapsing.NotInside = NotInside
reason_of collapsing.SecondEdge = SecondEdge
reason_of collapsing.NoRoom = NoRoom
reason_of collapsing.OutOfMemory = OutOfMemory

-- this way needs memory for a list, and there are the numbers that it needs
abbrev pub MayLackMemory : Shape → WayOut → Type 0
MayLackMemory s Alone = ⊥
MayLackMemory s (Inside h) = HasRoomToCollapse s h
MayLackMemory s (Border h) = Unit {0}
MayLackMemory s LastEdge = ⊥

module _ {V DE UE F : Type 0} where
  -- h is the first out edge of v that can be collapsed
  pub record IsFirstToCollapse (m : Mesh V DE UE F) (v h : ℕ) : Type 0 where
    pub out : IsOutEdge m.shape v h
    pub can : CanCollapse m.shape h
    pub before : List ℕ
    pub after : List ℕ
    pub are : out_edges_of m v ≡ before ++ h ∷ after
    pub none : (x : ℕ) → 0 < count_of x before → ¬ CanCollapse m.shape x

  -- v can be removed in this way, if there are numbers and memory
  abbrev pub Leaves : Mesh V DE UE F → ℕ → WayOut → Type 0
  Leaves m v Alone = (m.shape.removal ≡ Closed) × IsUnconnected m.shape v
  Leaves m v (Inside h) = IsFirstToCollapse m v h
  Leaves m v (Border h) = (m.shape.removal ≡ Closed) × IsStripAround m.shape v h
  Leaves m v LastEdge = IsLastEdge m.shape v

  -- the edges and triangles at v are gone, where its outer out edge is h, and then v; the last of each kind get the numbers. The outer face runs
  -- along the strip
  abbrev pub without_strip : Mesh V DE UE F → ℕ → ℕ → Mesh V DE UE F
  without_strip m v h = vertex_taken_out (cleaned_up (strip_cut m (strip_of m.shape h))) v

  -- what each way leaves
  abbrev pub IsLeft : (DE → Type 0) → (UE → Type 0) → (F → Type 0) → Mesh V DE UE F → Mesh V DE UE F → ℕ → WayOut → Type 0
  IsLeft is_half is_edge is_face old new v Alone = new ≡ vertex_taken_out old v
  IsLeft is_half is_edge is_face old new v (Inside h) = TakesOut is_half is_edge is_face (border_from old.shape h) old new v
  IsLeft is_half is_edge is_face old new v (Border h) = new ≡ without_strip old v h
  IsLeft is_half is_edge is_face old new v LastEdge = new ≡ removed_degenerate old v

  -- v is removed in its way and returned, and a simple mesh stays simple
  pub record Removes (is_half : DE → Type 0) (is_edge : UE → Type 0) (is_face : F → Type 0) (old new : Mesh V DE UE F) (v : ℕ) (taken : RemovalResult V) : Type 0 where
    pub way : WayOut
    pub leaves : Leaves old v way
    pub is : IsLeft is_half is_edge is_face old new v way
    pub simple : IsSimple old.shape → IsSimple new.shape
    pub returned : Returns old v taken

  -- each reason holds, and none above it does; NotInside is never given
  abbrev pub MayNotLeave : Mesh V DE UE F → ℕ → WhyNotRemoved → Type 0
  MayNotLeave m v NoVertex = ¬ (v < m.shape.vertices)
  MayNotLeave m v RemovalOpen = (v < m.shape.vertices) × (m.shape.removal ≢ Closed)
  MayNotLeave m v LongFace = IsThere m.shape v × HasLongFace m.shape v
  MayNotLeave m v CutVertex = IsThere m.shape v × IsCut m.shape v × ¬ HasLongFace m.shape v
  MayNotLeave m v ShortBorder = IsThere m.shape v × ((h : ℕ) × IsOnBorder m.shape v h) × ¬ (2 < length (word_of m.shape.words 0)) × ¬ IsLastEdge m.shape v
  MayNotLeave m v SecondEdge = IsThere m.shape v × IsSurrounded m.shape v × ((h : ℕ) → IsOutEdge m.shape v h → ¬ CanCollapse m.shape h)
  MayNotLeave m v NoRoom = (h : ℕ) × IsFirstToCollapse m v h × ¬ HasRoomToCollapse m.shape h
  MayNotLeave m v OutOfMemory = (way : WayOut) × Leaves m v way × MayLackMemory m.shape way
  MayNotLeave m v NotInside = ⊥

  -- what removing v comes to: it is removed, or refused for a reason that is so, and then the mesh is as it was
  abbrev pub Outcome : (DE → Type 0) → (UE → Type 0) → (F → Type 0) → Mesh V DE UE F → Mesh V DE UE F → ℕ → Result (RemovalResult V) WhyNotRemoved → Type 0
  Outcome is_half is_edge is_face old new v (Ok taken) = Removes is_half is_edge is_face old new v taken
  Outcome is_half is_edge is_face old new v (Err why) = MayNotLeave old v why × (new ≡ old)
