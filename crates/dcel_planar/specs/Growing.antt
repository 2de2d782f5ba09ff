-- What an insertion finds, and what it leaves.
use Rattle.std.specs.Prelude.{◌≡◌, ◌≢◌, ◌⊎◌, ◌<◌, ◌≤◌, ◌+◌, ◌++◌, ℕ, List, [], ◌∷◌}
use Rattle.dcel_maps.specs.Removals.{Closed}
use Rattle.dcel_maps.specs.Conditions.{HasRoom}
use Rattle.dcel_maps.specs.Shapes.{Mesh, Shape, face_count}
use Rattle.dcel_maps.specs.Triangulations.{AllTriangles}
use Rattle.dcel_plane.specs.Plane.{ListsCircled, TrianglesTurnLeft, point_at}
use Rattle.dcel_plane.specs.covering.Covering.{IsConvex, IsHull}
use Rattle.dcel_plane.specs.hull.Closing.{IsClosing, IsThick, IsThin}
use Rattle.dcel_plane.specs.hull.Straight.{IsStraight}
use Rattle.dcel_planar.specs.Places.{HasPoint}
use Rattle.dcel_planar.specs.declared.errors.InsertionError.{InsertionError}
use Rattle.dcel_planar.specs.declared.errors.InsertionError.TheVariants.{OutOfMemory, OutOfRange, TooManyPoints, Unfinished}
use Rattle.dcel_predicates.specs.declared.point.Point.{Point}

-- why a point isn't put in: no numbers are left for another vertex, three edges and two faces, or memory ran out
abbrev pub IsInsertionReason : Shape → InsertionError → Type 0
IsInsertionReason s OutOfRange = ⊥
IsInsertionReason s TooManyPoints = ¬ HasRoom s 1 3 2
IsInsertionReason s OutOfMemory = Unit {0}
IsInsertionReason s Unfinished = ⊥

-- Euler's formula for all vertices: none is without an edge, once there are two
pub record IsJoined (s : Shape) : Type 0 where
  pub euler : 0 < s.vertices → s.vertices + face_count s ≡ s.edges + 2
  pub empty : s.vertices ≡ 0 → face_count s ≡ 1

module _ {DE UE F : Type 0} where
  -- no removal is open, the vertices are joined, and each inner face is a triangle that goes round counterclockwise
  pub record IsTriangleMesh (m : Mesh Point DE UE F) : Type 0 where
    pub closed : m.shape.removal ≡ Closed
    pub joined : IsJoined m.shape
    pub triangles : AllTriangles m.shape
    pub plane : TrianglesTurnLeft (point_at m) m.shape

  -- the same, and each edge between two triangles that has a corner inside the circle of the other side is in the list
  pub record IsDelaunayBut (m : Mesh Point DE UE F) (due : List ℕ) : Type 0 where
    pub triangulated : IsTriangleMesh m
    pub open triangulated use *
    pub listed : ListsCircled (point_at m) m.shape due

  -- of the edges that break Delaunay's condition the list lacks none afterwards but those that it lacked before
  abbrev pub KeepsListed : Mesh Point DE UE F → Mesh Point DE UE F → List ℕ → List ℕ → Type 0
  KeepsListed old new before after =
      (lacking : List ℕ) → ListsCircled (point_at old) old.shape (before ++ lacking) → ListsCircled (point_at new) new.shape (after ++ lacking)

  -- all vertices stand on one line, in the order of the path that joins them; there may be no edge yet
  pub record IsFlat (m : Mesh Point DE UE F) : Type 0 where
    pub alone : face_count m.shape ≡ 1
    pub straight : IsStraight (point_at m) m.shape

  -- there is a triangle, and the outer face is a convex hull that passes each vertex once
  pub record HasHull (m : Mesh Point DE UE F) : Type 0 where
    pub inner : 1 < face_count m.shape
    pub convex : IsConvex (point_at m) m.shape
    pub hull : IsHull (point_at m) m.shape

  -- the hull is being closed round the vertex t, the last one, which was put beside an edge of a hull or of a line
  pub record IsOpen (m : Mesh Point DE UE F) (t : ℕ) : Type 0 where
    pub inner : 1 < face_count m.shape
    pub last : t + 1 ≡ m.shape.vertices
    pub closing : IsClosing (point_at m) m.shape t
    pub from : (IsHull (point_at m) m.shape × IsThick (point_at m) m.shape t) ⊎ IsThin (point_at m) m.shape t

  -- a line, a hull, or a hull that is still to be closed, and then there is an edge to be looked at
  abbrev pub HasOutside : Mesh Point DE UE F → List ℕ → Type 0
  HasOutside m due = IsFlat m ⊎ (HasHull m ⊎ ((due ≢ []) × ((t : ℕ) × IsOpen m t)))

  -- what each insertion leaves, whether it came to its end or not
  pub record IsInProgress (m : Mesh Point DE UE F) (due : List ℕ) : Type 0 where
    pub sound : IsDelaunayBut m due
    pub hull : HasOutside m due

  -- a whole triangulation
  pub record IsTriangulation (m : Mesh Point DE UE F) : Type 0 where
    pub sound : IsDelaunayBut m []
    pub hull : IsFlat m ⊎ HasHull m

  -- the vertices with their points stay, no edge is taken out, and no removal is open
  pub record Keeps (old new : Mesh Point DE UE F) : Type 0 where
    pub closed : new.shape.removal ≡ Closed
    pub vertices : new.shape.vertices ≡ old.shape.vertices
    pub points : new.vertex_data ≡ old.vertex_data
    pub edges : old.shape.edges ≤ new.shape.edges

  -- there is one more vertex, the last one, with this point
  pub record Gains (old new : Mesh Point DE UE F) (p : Point) (v : ℕ) : Type 0 where
    pub closed : new.shape.removal ≡ Closed
    pub vertices : new.shape.vertices ≡ old.shape.vertices + 1
    pub vertex : v ≡ old.shape.vertices
    pub points : new.vertex_data ≡ old.vertex_data ++ p ∷ []
    pub edges : old.shape.edges ≤ new.shape.edges

  -- the vertex v has the point: it stood there before, and nothing has changed, or it is new
  abbrev pub Inserts : Mesh Point DE UE F → Mesh Point DE UE F → Point → ℕ → Type 0
  Inserts old new p v = (HasPoint old p v × (new ≡ old)) ⊎ Gains old new p v
