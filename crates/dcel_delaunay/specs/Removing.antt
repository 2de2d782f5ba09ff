-- A vertex taken out: what its edges are before, and what is left.
use Rattle.std.specs.Prelude.{◌≡◌, ◌≢◌, ◌⊎◌, ℕ, ◌<◌, ◌+◌, ◌-◌, ◌/◌, ◌==◌, Bool, List, [], length, None, Some, cond}
use Rattle.spade_dcel.specs.declared.operations.results.IsolateVertexResult.{IsolateVertexResult}
use Rattle.dcel_maps.specs.Borders.{IsBorderLoop}
use Rattle.dcel_maps.specs.Conditions.{HasRoom}
use Rattle.dcel_maps.specs.Removals.{IsListed, Isolated}
use Rattle.dcel_maps.specs.Renumbering.{cleaned_up, moved}
use Rattle.dcel_maps.specs.Shapes.{IsMesh, Mesh, Shape, IsLive, end_of, face_count, face_of}
use Rattle.dcel_maps.specs.Triangulations.{AllTriangles}
use Rattle.dcel_maps.specs.edits.Strip.{strip_cut, strip_edges, strip_faces}
use Rattle.dcel_maps.specs.Strips.{strip_of}
use Rattle.dcel_maps.specs.Walking.{IsOutEdge, ccw_of}
use Rattle.dcel_predicates.specs.declared.point.Point.{Point}
use Rattle.dcel_plane.specs.Plane.{TrianglesTurnLeft, point_at}
use Rattle.dcel_plane.specs.covering.Covering.{IsConvex, IsHull}
use Rattle.dcel_plane.specs.hull.Straight.{IsStraight}
use Rattle.spade_dcel.specs.Opened.{HasOpened}
use Rattle.dcel_plane.specs.removal.Wheels.{CanFlipInPlane, MakesTwo}
use Rattle.dcel_planar.specs.Corners.{StartsOutside}
use Rattle.dcel_planar.specs.Growing.{HasHull, IsFlat, Keeps}
use Rattle.dcel_planar.specs.Leaving.{IsSame}
use Rattle.dcel_planar.specs.Legalization.{ListsLoose}
use Rattle.dcel_planar.specs.Outcomes.{IsWholeMesh, KeepsWhole}
use Rattle.dcel_planar.specs.Places.{HasPoint, IsOnLine}
use Rattle.dcel_planar.specs.declared.planar.PlanarMesh.{PlanarMesh}
use Rattle.dcel_delaunay.specs.Staying.{KeepsOthersStaying, LeavesLegal, LosesNoneStaying}
use Rattle.dcel_delaunay.specs.declared.errors.RemovalError.{RemovalError}
use Rattle.dcel_delaunay.specs.declared.errors.RemovalError.TheVariants.{NoVertex, OutOfMemory, TooManyPoints, Unfinished}
use Rattle.dcel_delaunay.specs.declared.remove.border.Border.{Border}
use Rattle.dcel_delaunay.specs.declared.remove.border.Border.TheVariants.{Triangle, Square}
use Rattle.dcel_delaunay.specs.declared.removed.Removed.{Removed}

-- no out edge of the vertex v lies on the outer face
abbrev pub IsInnerVertex : Shape → ℕ → Type 0
IsInnerVertex s v = (k : ℕ) → IsOutEdge s v k → 0 < face_of s k

module _ {DE UE F : Type 0} where
  -- the edge u of the vertex v can be flipped between two triangles that turn left
  pub record IsTurnable (m : Mesh Point DE UE F) (v u : ℕ) : Type 0 where
    pub half : ℕ
    pub out : IsOutEdge m.shape v half
    pub is : half / 2 ≡ u
    pub can : CanFlipInPlane (point_at m) m.shape u

  -- no edge of v can
  abbrev pub HasNoneToTurn : Mesh Point DE UE F → ℕ → Type 0
  HasNoneToTurn m v = (h : ℕ) → IsOutEdge m.shape v h → ¬ CanFlipInPlane (point_at m) m.shape (h / 2)

  -- v lies inside of triangles, and none of its edges can be flipped so
  pub record IsThinnedOut (m : Mesh Point DE UE F) (v : ℕ) : Type 0 where
    pub below : v < m.shape.vertices
    pub triangles : AllTriangles m.shape
    pub plane : TrianglesTurnLeft (point_at m) m.shape
    pub hull : HasHull m
    pub some : (k : ℕ) × IsOutEdge m.shape v k
    pub inside : IsInnerVertex m.shape v
    pub none : HasNoneToTurn m v

  -- from the out edge h of v on, the ends of four edges make two triangles, if they do so from any, or v has three
  pub record BeginsBorder (m : Mesh Point DE UE F) (v h : ℕ) : Type 0 where
    pub out : IsOutEdge m.shape v h
    pub two :
        MakesTwo (point_at m) m.shape h ⊎ ((k : ℕ) → IsOutEdge m.shape v k → ¬ MakesTwo (point_at m) m.shape k)
        ⊎ (ccw_of m.shape (ccw_of m.shape (ccw_of m.shape h)) ≡ h)

  -- the border loop of v, which makes these triangles
  pub record IsFilled (m : Mesh Point DE UE F) (v : ℕ) (border : List ℕ) : Type 0 where
    pub round : IsBorderLoop m.shape border v
    pub triangles : (length border ≡ 3) ⊎ ((length border ≡ 4) × MakesTwo (point_at m) m.shape round.first)

  -- the same, as the call finds it
  abbrev pub IsBorder : Mesh Point DE UE F → ℕ → Border → Type 0
  IsBorder m v (Triangle border) = IsFilled m v border × (length border ≡ 3)
  IsBorder m v (Square border) = IsFilled m v border × (length border ≡ 4)

  -- v is a corner of the hull, where the outer half edge h starts, and none of its edges can be flipped so
  pub record IsHullCorner (m : Mesh Point DE UE F) (v h : ℕ) : Type 0 where
    pub outside : StartsOutside m v h
    pub hull : HasHull m
    pub none : HasNoneToTurn m v

  -- the corner where the outer half edge h starts lies between its two neighbors on the hull
  abbrev pub LiesFlat : Mesh Point DE UE F → ℕ → Type 0
  LiesFlat m h = IsOnLine m (point_at m (end_of m.shape (ccw_of m.shape h))) h

  -- the vertex where h starts is cut off, and the result says what is given up with it
  pub record CutsOff {A : Type 0} (old new : Mesh Point DE UE F) (h : ℕ) (opened : IsolateVertexResult A) : Type 0 where
    pub mesh : IsMesh new
    pub is : new ≡ strip_cut old (strip_of old.shape h)
    pub answer : HasOpened (strip_edges old.shape (strip_of old.shape h)) (strip_faces old.shape (strip_of old.shape h)) [] 0 opened

  -- a triangle is left once all is taken out that was given up, and the outer face is a convex hull
  pub record HasOutline (m : Mesh Point DE UE F) : Type 0 where
    pub inner : 1 < face_count (cleaned_up m).shape
    pub convex : IsConvex (point_at m) m.shape
    pub hull : IsHull (point_at m) m.shape

  -- no triangle is left, and the rest is a line
  pub record IsStrung (m : Mesh Point DE UE F) : Type 0 where
    pub none : (h : ℕ) → IsLive m.shape h → face_of m.shape h ≡ 0
    pub straight : IsStraight (point_at m) m.shape

  -- the vertex v is gone, the last one has its number, and each other one stands where it stood
  pub record Loses (old new : Mesh Point DE UE F) (v : ℕ) (removed : Removed) : Type 0 where
    pub within : v < old.shape.vertices
    pub vertices : new.shape.vertices + 1 ≡ old.shape.vertices
    pub point : HasPoint old removed.point v
    pub renamed : removed.moved ≡ cond (v == old.shape.vertices - 1) None (Some (old.shape.vertices - 1))
    pub others : (w : ℕ) → w < old.shape.vertices → w ≢ v → point_at new (moved (old.shape.vertices - 1) v w) ≡ point_at old w

module _ {DE UE F : Type 0} (stays : UE → Bool) where
  -- v is given up, with edges and faces of the numbers that Euler's formula wants, and what is left lies in the plane with its hull, or on a
  -- line; edges that have to stay are left
  pub record IsEmptied (old new : Mesh Point DE UE F) (v : ℕ) (before after : List ℕ) : Type 0 where
    pub mesh : IsMesh new
    pub vertices : new.shape.vertices ≡ old.shape.vertices
    pub points : new.vertex_data ≡ old.vertex_data
    pub edges : List ℕ
    pub faces : List ℕ
    pub removal : new.shape.removal ≡ Isolated edges faces (Some v)
    pub euler : old.shape.vertices + face_count new.shape + length edges ≡ new.shape.edges + length faces + 3
    pub triangles : AllTriangles new.shape
    pub plane : TrianglesTurnLeft (point_at new) new.shape
    pub listed : ListsLoose stays old before → ListsLoose stays new after
    pub left : HasOutline new ⊎ IsStrung new
    pub staying : KeepsOthersStaying stays old new v

  -- v is taken out, and the list has each edge that is to be looked at; edges that have to stay are left
  pub record TakesOut (old new : Mesh Point DE UE F) (v : ℕ) (before after : List ℕ) (removed : Removed) : Type 0 where
    pub loses : Loses old new v removed
    pub sound : LeavesLegal stays old new before after
    pub staying : LosesNoneStaying stays old new v
    pub hull : IsFlat new ⊎ HasHull new

  -- the vertex is given up, and the result names what is given up with it
  pub record IsGivenUp {A : Type 0} (old new : Mesh Point DE UE F) (v : ℕ) (before after : List ℕ) (opened : IsolateVertexResult A) : Type 0 where
    pub emptied : IsEmptied old new v before after
    pub named : IsListed new.shape.removal opened.edges_to_remove.items opened.faces_to_remove.items

module _ {UE A : Type 0} where
  -- the vertex v isn't taken out
  abbrev pub FailsToTakeOut : PlanarMesh UE A → PlanarMesh UE A → ℕ → RemovalError → Type 0
  FailsToTakeOut old new v NoVertex = ⊥
  FailsToTakeOut old new v TooManyPoints = IsInnerVertex old.dcel.shape v × ¬ HasRoom old.dcel.shape 0 1 2 × IsSame old new
  FailsToTakeOut old new v OutOfMemory = Keeps old.dcel new.dcel
  FailsToTakeOut old new v (Unfinished removed) = ⊥

  -- a removal of the vertex v fails
  abbrev pub FailsToRemove : PlanarMesh UE A → PlanarMesh UE A → ℕ → RemovalError → Type 0
  FailsToRemove old new v NoVertex = ¬ (v < new.dcel.shape.vertices) × KeepsWhole old new × IsWholeMesh new
  FailsToRemove old new v TooManyPoints = (v < new.dcel.shape.vertices) × IsInnerVertex new.dcel.shape v × ¬ HasRoom new.dcel.shape 0 1 2 × KeepsWhole old new × IsWholeMesh new
  FailsToRemove old new v OutOfMemory = new.dcel.vertex_data ≡ old.dcel.vertex_data
  FailsToRemove old new v (Unfinished removed) = Loses old.dcel new.dcel v removed × ¬ IsWholeMesh new
