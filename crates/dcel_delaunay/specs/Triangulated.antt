-- What contracts see of a triangulation.
use Rattle.std.specs.Prelude.{◌≡◌, ◌≢◌, ◌<◌, ℕ, pos, ◌≤ℤ◌, Option, None, Some}
use Rattle.dcel_maps.specs.Shapes.{IsLive, Mesh, end_of, face_count, face_of, origin_of}
use Rattle.dcel_predicates.specs.declared.point.Point.{Point}
use Rattle.dcel_predicates.specs.Determinants.{incircle_of}
use Rattle.dcel_plane.specs.Plane.{point_at}
use Rattle.dcel_plane.specs.covering.Covering.{Supports}
use Rattle.dcel_plane.specs.covering.Delaunay.{HasCornerVertices, LiesInSomeTriangle, LiesInHull}
use Rattle.dcel_plane.specs.covering.Places.{AreDisjoint, Place}
use Rattle.dcel_plane.specs.location.Nearest.{IsNearest}
use Rattle.dcel_delaunay.specs.declared.triangulation.Triangulation.{Triangulation}

module _ {DE UE F : Type 0} where
  -- no vertex lies inside the circle of an inner face
  abbrev pub CirclesAreEmpty : Mesh Point DE UE F → Type 0
  CirclesAreEmpty m = (f a b c v : ℕ) → HasCornerVertices m.shape f a b c → v < m.shape.vertices
      → incircle_of (point_at m a) (point_at m b) (point_at m c) (point_at m v) ≤ℤ pos 0

  -- no place lies inside two inner faces
  abbrev pub FacesAreApart : Mesh Point DE UE F → Type 0
  FacesAreApart m = (f g a b c x y z : ℕ) → HasCornerVertices m.shape f a b c → HasCornerVertices m.shape g x y z → f ≢ g
      → AreDisjoint (point_at m a) (point_at m b) (point_at m c) (point_at m x) (point_at m y) (point_at m z)

  -- each place that no half edge of the outer face has on its left lies in an inner face, or on its border
  abbrev pub HullIsCovered : Mesh Point DE UE F → Type 0
  HullIsCovered m = (p : Place) → LiesInHull (point_at m) m.shape p → LiesInSomeTriangle (point_at m) m.shape p

  -- two vertices that stand at one point are one
  abbrev pub PointsAreSingle : Mesh Point DE UE F → Type 0
  PointsAreSingle m = (v w : ℕ) → v < m.shape.vertices → w < m.shape.vertices → point_at m v ≡ point_at m w → v ≡ w

  -- each half edge of the outer face supports all vertices; and once there is an inner face, the outer face passes each vertex at most once
  pub record GoesRoundHull (m : Mesh Point DE UE F) : Type 0 where
    pub supports : (h v : ℕ) → IsLive m.shape h → face_of m.shape h ≡ 0 → v < m.shape.vertices
        → Supports (point_at m (origin_of m.shape h)) (point_at m (end_of m.shape h)) (point_at m v)
    pub once : 1 < face_count m.shape → (h k : ℕ) → IsLive m.shape h → IsLive m.shape k → face_of m.shape h ≡ 0 → face_of m.shape k ≡ 0
        → origin_of m.shape h ≡ origin_of m.shape k → h ≡ k

  -- no vertex is nearer to the point, and there is none only if there is no vertex
  abbrev pub IsNearestIn : Mesh Point DE UE F → Point → Option ℕ → Type 0
  IsNearestIn m p None = m.shape.vertices ≡ 0
  IsNearestIn m p (Some v) = (v < m.shape.vertices) × IsNearest (point_at m) m.shape p v

module _ {A : Type 0} where
  -- its mesh
  abbrev pub mesh_in : Triangulation A → Mesh Point (Unit {0}) (Unit {0}) (Unit {0})
  mesh_in t = t.planar.dcel
