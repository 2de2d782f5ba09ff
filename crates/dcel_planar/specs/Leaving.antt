-- What edits of a planar mesh leave.
use Rattle.std.specs.Prelude.{◌≡◌, ◌≢◌, ◌⊎◌, ℕ, []}
use Rattle.dcel_maps.specs.Shapes.{IsLive, Mesh, face_of}
use Rattle.dcel_plane.specs.covering.Covering.{HasEmptyCircles}
use Rattle.dcel_plane.specs.Plane.{point_at}
use Rattle.dcel_plane.specs.star.Star.{HasEmptyCirclesBut}
use Rattle.dcel_predicates.specs.declared.point.Point.{Point}
use Rattle.dcel_planar.specs.Corners.{GoesOnClosing}
use Rattle.dcel_planar.specs.Edges.{KeepsEdges}
use Rattle.dcel_planar.specs.Growing.{HasHull, IsFlat, Gains, IsInsertionReason, Keeps, KeepsListed}
use Rattle.dcel_planar.specs.declared.errors.InsertionError.{InsertionError}
use Rattle.dcel_planar.specs.declared.position.PositionInTriangulation.{PositionInTriangulation}
use Rattle.dcel_planar.specs.declared.position.PositionInTriangulation.TheVariants.{OnVertex}
use Rattle.dcel_planar.specs.declared.planar.PlanarMesh.{PlanarMesh}

module _ {DE UE F : Type 0} where
  -- all vertices stand on one line, or there is a triangle and the outer face is a convex hull: no hull is to be closed
  abbrev pub IsOutlined : Mesh Point DE UE F → Type 0
  IsOutlined m = IsFlat m ⊎ HasHull m

  -- if no vertex was inside the circle of a triangle, circles are now empty but for the vertex that has the next number
  abbrev pub KeepsCirclesBut : Mesh Point DE UE F → Mesh Point DE UE F → Type 0
  KeepsCirclesBut old new = HasEmptyCircles (point_at old) old.shape → HasEmptyCirclesBut (point_at new) new.shape old.shape.vertices

  -- the half edge h lies on the outer face
  abbrev pub IsOuter : Mesh Point DE UE F → ℕ → Type 0
  IsOuter m h = IsLive m.shape h × (face_of m.shape h ≡ 0)

module _ {UE A : Type 0} where
  -- nothing has changed
  pub record IsSame (old new : PlanarMesh UE A) : Type 0 where
    pub mesh : new.dcel ≡ old.dcel
    pub due : new.due.items ≡ old.due.items

  -- a point is not put in, for this reason, and nothing has changed
  abbrev pub IsNotPut : PlanarMesh UE A → PlanarMesh UE A → InsertionError → Type 0
  IsNotPut old new e = IsInsertionReason old.dcel.shape e × IsSame old new

  -- of the edges that break Delaunay's condition the list lacks none afterwards but those that it lacked before
  abbrev pub KeepsDue : PlanarMesh UE A → PlanarMesh UE A → Type 0
  KeepsDue old new = KeepsListed old.dcel new.dcel old.due.items new.due.items

  -- what triangles closed at the hull leave
  pub record ClosesHull (is_default : UE → Type 0) (old new : PlanarMesh UE A) : Type 0 where
    pub keeps : Keeps old.dcel new.dcel
    pub lists : KeepsDue old new
    pub edges : KeepsEdges is_default old.dcel new.dcel
    pub goes_on : GoesOnClosing old.dcel new.dcel
    pub listed : old.due.items ≢ [] → new.due.items ≢ []

  -- the vertex v is that of the position, and nothing has changed, or it is new
  abbrev pub IsPutIn : PlanarMesh UE A → PlanarMesh UE A → PositionInTriangulation → Point → ℕ → Type 0
  IsPutIn old new position p v = ((position ≡ OnVertex v) × IsSame old new) ⊎ Gains old.dcel new.dcel p v
