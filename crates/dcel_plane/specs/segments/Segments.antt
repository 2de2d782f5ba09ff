-- The edges that cross the segment from the vertex v to the vertex w.
use Rattle.std.specs.Prelude.{◌≡◌, ◌⊎◌, ℕ, ◌<◌, ◌≤◌, ◌/◌, List, [], ◌∷◌, ◌++◌, ℤ, pos, ◌+ℤ◌, ◌-ℤ◌, ◌<ℤ◌, ◌≤ℤ◌}
use Rattle.dcel_fixed.specs.HalfEdges.{rev}
use Rattle.dcel_predicates.specs.declared.point.Point.{Point}
use Rattle.dcel_predicates.specs.Determinants.{orient2d_of}
use Rattle.dcel_maps.specs.edits.Flip.{edge_flipped}
use Rattle.dcel_maps.specs.Shapes.{IsLive, IsMesh, Mesh, Shape, end_of, face_of, origin_of, prev_of}
use Rattle.dcel_maps.specs.Triangulations.{AllTriangles}
use Rattle.dcel_maps.specs.Words.{count_of}
use Rattle.dcel_plane.specs.Edges.{edges_of_flip}
use Rattle.dcel_plane.specs.Plane.{TrianglesTurnLeft, TurnsLeft}
use Rattle.dcel_plane.specs.covering.Covering.{IsConvex, IsHull, dot}
use Rattle.dcel_plane.specs.removal.Wheels.{CanFlipInPlane}

-- `orient2d` of three vertices by their numbers: how far k lies on the left of the segment from v to w
abbrev pub orient2d_by : (ℕ → Point) → ℕ → ℕ → ℕ → ℤ
orient2d_by at v w k = orient2d_of (at v) (at w) (at k)

-- the half edge h crosses the segment from right to left, with v on its own left
pub record Crosses (at : ℕ → Point) (s : Shape) (v w h : ℕ) : Type 0 where
  pub live : IsLive s h
  pub right : orient2d_by at v w (origin_of s h) <ℤ pos 0
  pub left : pos 0 <ℤ orient2d_by at v w (end_of s h)
  pub near : TurnsLeft (at (origin_of s h)) (at (end_of s h)) (at v)
  pub far : orient2d_of (at (origin_of s h)) (at (end_of s h)) (at w) <ℤ pos 0

-- the face f has the corner v
pub record IsCorner (s : Shape) (f v : ℕ) : Type 0 where
  pub side : ℕ
  pub live : IsLive s side
  pub on : face_of s side ≡ f
  pub from : origin_of s side ≡ v

-- the segment leads from the face f through the half edges of the list, from one face to the next, to the face g
abbrev pub LeadsThrough : (ℕ → Point) → Shape → ℕ → ℕ → ℕ → List ℕ → ℕ → Type 0
LeadsThrough at s v w f [] g = f ≡ g
LeadsThrough at s v w f (h ∷ rest) g = Crosses at s v w h × (face_of s h ≡ f) × LeadsThrough at s v w (face_of s (rev h)) rest g

-- the half edges of the list are those through which the segment leads from v to w
pub record IsChannel (at : ℕ → Point) (s : Shape) (v w : ℕ) (list : List ℕ) : Type 0 where
  pub first : ℕ
  pub last : ℕ
  pub inner : 0 < first
  pub start : IsCorner s first v
  pub end : IsCorner s last w
  pub leads : LeadsThrough at s v w first list last
  pub once : (h : ℕ) → count_of h list ≤ 1

-- the corners on both sides of a half edge
abbrev pub corner_before : Shape → ℕ → ℕ
corner_before s h = origin_of s (prev_of s h)

abbrev pub corner_beyond : Shape → ℕ → ℕ
corner_beyond s h = origin_of s (prev_of s (rev h))

-- how far apart from each other the ends of a half edge are, across the segment
abbrev pub width : (ℕ → Point) → Shape → ℕ → ℕ → ℕ → ℤ
width at s v w h = orient2d_by at v w (end_of s h) -ℤ orient2d_by at v w (origin_of s h)

-- the corners on both sides lie in the strip between the half edge's ends, along the segment
pub record IsPeak (at : ℕ → Point) (s : Shape) (v w h : ℕ) : Type 0 where
  pub above : orient2d_by at v w (origin_of s h) <ℤ orient2d_by at v w (corner_before s h)
  pub below : orient2d_by at v w (corner_before s h) <ℤ orient2d_by at v w (end_of s h)
  pub above_too : orient2d_by at v w (origin_of s h) ≤ℤ orient2d_by at v w (corner_beyond s h)
  pub below_too : orient2d_by at v w (corner_beyond s h) ≤ℤ orient2d_by at v w (end_of s h)

-- of a half edge h between others of a list: the one before it is narrower, and the one after it isn't wider
abbrev pub NarrowerBefore : (ℕ → Point) → Shape → ℕ → ℕ → List ℕ → ℕ → Type 0
NarrowerBefore at s v w front h = (before : List ℕ) (k : ℕ) → front ≡ before ++ (k ∷ []) → width at s v w k <ℤ width at s v w h

abbrev pub NotWiderAfter : (ℕ → Point) → Shape → ℕ → ℕ → ℕ → List ℕ → Type 0
NotWiderAfter at s v w h back = (k : ℕ) (after : List ℕ) → back ≡ k ∷ after → width at s v w k ≤ℤ width at s v w h

-- all widths together
abbrev pub widths : (ℕ → Point) → Shape → ℕ → ℕ → List ℕ → ℤ
widths at s v w [] = pos 0
widths at s v w (h ∷ rest) = width at s v w h +ℤ widths at s v w rest

-- no vertex lies on the segment between v and w
pub record IsClear (at : ℕ → Point) (s : Shape) (v w : ℕ) : Type 0 where
  pub clear : (k : ℕ) → IsLive s k → orient2d_by at v w (origin_of s k) ≡ pos 0 → pos 0 ≤ℤ dot (at v) (at w) (at (origin_of s k))

-- what stands in the list for a half edge h once it is flipped: h or its other half, where the corners lie on different sides, or nothing
abbrev pub BecomesCrossing : (ℕ → Point) → Shape → ℕ → ℕ → ℕ → List ℕ → Type 0
BecomesCrossing at s v w h new =
    ((orient2d_by at v w (corner_before s h) <ℤ pos 0) × (pos 0 <ℤ orient2d_by at v w (corner_beyond s h)) × (new ≡ h ∷ []))
    ⊎ (((pos 0 <ℤ orient2d_by at v w (corner_before s h)) × (orient2d_by at v w (corner_beyond s h) <ℤ pos 0) × (new ≡ rev h ∷ []))
    ⊎ ((orient2d_by at v w (corner_before s h) <ℤ pos 0 → pos 0 <ℤ orient2d_by at v w (corner_beyond s h) → ⊥)
    × (pos 0 <ℤ orient2d_by at v w (corner_before s h) → orient2d_by at v w (corner_beyond s h) <ℤ pos 0 → ⊥) × (new ≡ [])))

-- the half edge h leads from v along the segment: to w, or to a vertex between v and w
pub record LeadsAlong (at : ℕ → Point) (s : Shape) (v w h : ℕ) : Type 0 where
  pub live : IsLive s h
  pub from : origin_of s h ≡ v
  pub on : orient2d_by at v w (end_of s h) ≡ pos 0
  pub ahead : (end_of s h ≡ w) ⊎ (dot (at v) (at w) (at (end_of s h)) <ℤ pos 0)

-- the segment leads from v through a triangle and out of it across the half edge h
pub record BeginsAt (at : ℕ → Point) (s : Shape) (v w h : ℕ) : Type 0 where
  pub crosses : Crosses at s v w h
  pub start : IsCorner s (face_of s h) v

-- in the triangle of the half edge k from v, the segment leads on: it leaves the next corner on its right, and the third on its left
pub record OpensAt (at : ℕ → Point) (s : Shape) (v w k : ℕ) : Type 0 where
  pub inner : 0 < face_of s k
  pub right : orient2d_by at v w (end_of s k) <ℤ pos 0
  pub left : pos 0 <ℤ orient2d_by at v w (corner_before s k)

-- v and w are vertices with an edge
pub record AreEnds (s : Shape) (v w : ℕ) : Type 0 where
  pub i : ℕ
  pub live_i : IsLive s i
  pub from_i : origin_of s i ≡ v
  pub j : ℕ
  pub live_j : IsLive s j
  pub from_j : origin_of s j ≡ w

-- these edges flipped, one after the other
abbrev pub flipped_each : {V DE UE F : Type 0} → Mesh V DE UE F → List ℕ → Mesh V DE UE F
flipped_each m [] = m
flipped_each m (u ∷ list) = flipped_each (edge_flipped m u) list

-- the edges of the triangles that they change
abbrev pub touched : {V DE UE F : Type 0} → Mesh V DE UE F → List ℕ → List ℕ
touched m [] = []
touched m (u ∷ list) = edges_of_flip m.shape u ++ touched (edge_flipped m u) list

-- a mesh of triangles that go round counterclockwise, with a convex hull that passes each vertex once
pub record TriangulatesItsHull {V DE UE F : Type 0} (at : ℕ → Point) (m : Mesh V DE UE F) : Type 0 where
  pub mesh : IsMesh m
  pub triangles : AllTriangles m.shape
  pub plane : TrianglesTurnLeft at m.shape
  pub convex : IsConvex at m.shape
  pub hull : IsHull at m.shape

-- each of these edges, when its turn comes after those before it are flipped, lies between two inner triangles and can be flipped so that
-- both go round counterclockwise again
abbrev pub CanTurnEach : {V DE UE F : Type 0} → (ℕ → Point) → Mesh V DE UE F → List ℕ → Type 0
CanTurnEach at m [] = Unit {0}
CanTurnEach at m (u ∷ list) = CanFlipInPlane at m.shape u × CanTurnEach at (edge_flipped m u) list

-- such flips, and nothing else, make the mesh `new` of `old`, and each edge is that of a half edge in the list
pub record TurnsInto {V DE UE F : Type 0} (at : ℕ → Point) (old new : Mesh V DE UE F) (list : List ℕ) : Type 0 where
  pub turned : List ℕ
  pub can : CanTurnEach at old turned
  pub is : new ≡ flipped_each old turned
  pub only : (u : ℕ) → 0 < count_of u turned → (h : ℕ) × (0 < count_of h list) × (h / 2 ≡ u)

-- the edges around the face f are in the list `due`
abbrev pub HasSides : List ℕ → Shape → ℕ → Type 0
HasSides due s f = (k : ℕ) → IsLive s k → face_of s k ≡ f → 0 < count_of (k / 2) due

-- and those around the faces on both sides of each half edge of a list
abbrev pub HasSidesOf : List ℕ → Shape → List ℕ → Type 0
HasSidesOf due s list = (h : ℕ) → 0 < count_of h list → HasSides due s (face_of s h) × HasSides due s (face_of s (rev h))
