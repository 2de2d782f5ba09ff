-- Where a point lies in a mesh of points.
use Rattle.std.specs.Prelude.{◌≡◌, ◌≢◌, ◌<◌, ℕ, ◌<ℤ◌, pos, slice_get, Some}
use Rattle.dcel_predicates.specs.declared.point.Point.{Point}
use Rattle.dcel_predicates.specs.declared.line.Side.{Side}
use Rattle.dcel_predicates.specs.declared.line.Side.TheVariants.{Left, On, Right}
use Rattle.dcel_predicates.specs.Determinants.{orient2d_of}
use Rattle.dcel_maps.specs.Conditions.{IsLineEnd, IsTriangle}
use Rattle.dcel_maps.specs.Shapes.{Mesh, IsLive, end_of, face_count, face_of, next_of, origin_of, prev_of}
use Rattle.dcel_plane.specs.Plane.{IsLeftOf, LiesAcross, LiesInFace, point_at}
use Rattle.dcel_plane.specs.location.Locating.{LiesBeyond, LiesOn}
use Rattle.dcel_planar.specs.declared.position.PositionInTriangulation.{PositionInTriangulation}
use Rattle.dcel_planar.specs.declared.position.PositionInTriangulation.TheVariants.{BeyondLine, NoTriangulation, OnEdge, OnFace, OnVertex, OutsideOfConvexHull}

module _ {DE UE F : Type 0} where
  -- the vertex v has the point p
  abbrev pub HasPoint : Mesh Point DE UE F → Point → ℕ → Type 0
  HasPoint m p v = slice_get m.vertex_data v ≡ Some p

  -- the half edge h has p on its left
  abbrev pub HasLeft : Mesh Point DE UE F → Point → ℕ → Type 0
  HasLeft m p h = IsLeftOf (point_at m) m.shape p h

  -- the half edge h has p on its right
  abbrev pub HasRight : Mesh Point DE UE F → Point → ℕ → Type 0
  HasRight m p h = orient2d_of (point_at m (origin_of m.shape h)) (point_at m (end_of m.shape h)) p <ℤ pos 0

  -- p lies on the line of the half edge h
  abbrev pub IsOnLine : Mesh Point DE UE F → Point → ℕ → Type 0
  IsOnLine m p h = orient2d_of (point_at m (origin_of m.shape h)) (point_at m (end_of m.shape h)) p ≡ pos 0

  -- p lies on this side of the half edge h
  abbrev pub LiesAt : Mesh Point DE UE F → Point → ℕ → Side → Type 0
  LiesAt m p h Left = HasLeft m p h
  LiesAt m p h Right = HasRight m p h
  LiesAt m p h On = IsOnLine m p h

  -- p lies on these sides of the half edge h of a triangle and of the two after it, on the right of none
  pub record LiesAtSides (m : Mesh Point DE UE F) (p : Point) (h : ℕ) (own after before : Side) : Type 0 where
    pub own_side : LiesAt m p h own
    pub after_side : LiesAt m p (next_of m.shape h) after
    pub before_side : LiesAt m p (prev_of m.shape h) before
    pub not_own : own ≢ Right
    pub not_after : after ≢ Right
    pub not_before : before ≢ Right

  -- p lies beyond the half edge h of the outer face
  abbrev pub IsBeyondHull : Mesh Point DE UE F → Point → ℕ → Type 0
  IsBeyondHull m p h = IsLive m.shape h × (face_of m.shape h ≡ 0) × HasLeft m p h

  -- p lies on the left of the other two half edges of the triangle of h
  pub record IsAcross (m : Mesh Point DE UE F) (p : Point) (h : ℕ) : Type 0 where
    pub inner : 0 < face_of m.shape h
    pub triangle : IsTriangle m.shape (face_of m.shape h)
    pub across : LiesAcross (point_at m) m.shape h p

  -- what a position says
  abbrev pub IsPlace : Mesh Point DE UE F → Point → PositionInTriangulation → Type 0
  IsPlace m p (OnFace f) = (0 < f) × IsTriangle m.shape f × LiesInFace (point_at m) m.shape f p
  IsPlace m p (OnEdge h) = IsLive m.shape h × LiesOn (point_at m) m.shape p h
  IsPlace m p (OnVertex v) = HasPoint m p v
  IsPlace m p (OutsideOfConvexHull h) = IsBeyondHull m p h
  IsPlace m p (BeyondLine v) =
      (face_count m.shape ≡ 1) × IsLineEnd m.shape v × ((h : ℕ) × IsLive m.shape h × (end_of m.shape h ≡ v) × LiesBeyond (point_at m) m.shape p h)
  IsPlace m p NoTriangulation = (m.shape.edges ≡ 0) × (face_count m.shape ≡ 1) × ((v : ℕ) → v < m.shape.vertices → ¬ HasPoint m p v)
