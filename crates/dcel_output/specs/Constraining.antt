-- Segments between points, made chains of marked edges.
use Rattle.std.specs.Prelude.{◌≡◌, ℕ, ◌<◌, List, Option, None, Some, length, slice_get}
use Rattle.std.specs.List.{slice_index_or}
use Rattle.dcel_predicates.specs.declared.point.Point.{Point}
use Rattle.dcel_maps.specs.Conditions.{IsUnconnected}
use Rattle.dcel_maps.specs.Removals.{Closed}
use Rattle.dcel_maps.specs.Shapes.{IsMesh, Mesh, face_count}
use Rattle.dcel_maps.specs.Triangulations.{AllTriangles}
use Rattle.dcel_plane.specs.Plane.{TrianglesTurnLeft, point_at}
use Rattle.dcel_planar.specs.Places.{HasPoint}
use Rattle.dcel_delaunay.specs.Bulk.{AnswersEach}
use Rattle.dcel_delaunay.specs.Triangulated.{FacesAreApart, GoesRoundHull, HullIsCovered, PointsAreSingle}
use Rattle.dcel_regions.specs.Marked.{IsMarked}
use Rattle.dcel_regions.specs.declared.mark.Mark.{Mark}
use Rattle.dcel_constrained.specs.Blocking.{Blocks}
use Rattle.dcel_constrained.specs.Channels.{HasVertices}
use Rattle.dcel_constrained.specs.Constraints.{IsMarkedWay, IsPartOf}
use Rattle.dcel_constrained.specs.Loading.{DoCross}
use Rattle.dcel_constrained.specs.Sight.{CirclesInSightAreEmpty}
use Rattle.dcel_constrained.specs.Soundness.{IsConstrainedDelaunay}
use Rattle.dcel_constrained.specs.declared.errors.ConstraintError.{ConstraintError}
use Rattle.dcel_constrained.specs.declared.errors.ConstraintError.TheVariants as told
use Rattle.dcel_constrained.specs.declared.load.Segment.{Segment}
use Rattle.dcel_output.specs.Numbering.{NumbersVertices}
use Rattle.dcel_output.specs.declared.constraining.SegmentError.{SegmentError}
use Rattle.dcel_output.specs.declared.constraining.SegmentError.TheVariants.{Crosses, NoVertex, OneVertex, OutOfMemory}

-- the vertex of the point i, if it has one
abbrev pub vertex_at : List (Option ℕ) → ℕ → Option ℕ
vertex_at vertices i = slice_index_or vertices i None

-- the ends of the segment stand at the vertices v and w
pub record HasEnds (vertices : List (Option ℕ)) (s : Segment) (v w : ℕ) : Type 0 where
  pub from : vertex_at vertices s.from ≡ Some v
  pub to : vertex_at vertices s.to ≡ Some w

-- the point stands at the vertex
abbrev pub StandsThere : {DE UE F : Type 0} → Mesh Point DE UE F → Point → Option ℕ → Type 0
StandsThere m p None = ⊥
StandsThere m p (Some v) = HasPoint m p v

module _ {DE F : Type 0} where
  -- marked half edges lead straight from one end of the segment to the other, one after another
  pub record IsChain (m : Mesh Point DE Mark F) (vertices : List (Option ℕ)) (s : Segment) (halves : List ℕ) : Type 0 where
    pub from : ℕ
    pub to : ℕ
    pub ends : HasEnds vertices s from to
    pub way : IsMarkedWay m to from halves

  -- the edge u lies on the segment
  pub record IsOn (m : Mesh Point DE Mark F) (vertices : List (Option ℕ)) (s : Segment) (u : ℕ) : Type 0 where
    pub from : ℕ
    pub to : ℕ
    pub ends : HasEnds vertices s from to
    pub part : IsPartOf m from to u

  -- each of the first `count` segments is a chain of marked edges
  abbrev pub AreChains : Mesh Point DE Mark F → List (Option ℕ) → List Segment → ℕ → Type 0
  AreChains m vertices segments count = (i : ℕ) (s : Segment) → i < count → slice_get segments i ≡ Some s → (halves : List ℕ) × IsChain m vertices s halves

  -- and each marked edge lies on one of them
  abbrev pub LieOnSegments : Mesh Point DE Mark F → List (Option ℕ) → List Segment → ℕ → Type 0
  LieOnSegments m vertices segments count = (u : ℕ) → IsMarked m u → (i : ℕ) × (s : Segment) × (i < count) × (slice_get segments i ≡ Some s) × IsOn m vertices s u

  -- a constrained Delaunay triangulation of the points (L. P. Chew, "Constrained Delaunay triangulations", 1989), with these numbers at its
  -- vertices: triangles that go round counterclockwise, with all vertices as corners, cover the convex hull without overlaps, and the outer face
  -- goes round it; the marked edges are those of the segments; each edge that isn't locally Delaunay is marked, and inside the circle of no
  -- triangle is a vertex that it sees past no marked edge. If all points are on one line, it is a path along it.
  pub record AreConstrainedTriangles (points : List Point) (vertices : List (Option ℕ)) (segments : List Segment) (m : Mesh Point DE Mark F) (numbers : List ℕ)
      : Type 0 where
    pub numbered : NumbersVertices m points numbers
    pub stand : AnswersEach (StandsThere m) points vertices
    pub chains : AreChains m vertices segments (length segments)
    pub only : LieOnSegments m vertices segments (length segments)
    pub mesh : IsMesh m
    pub closed : m.shape.removal ≡ Closed
    pub triangles : AllTriangles m.shape
    pub joined : (v : ℕ) → 1 < m.shape.vertices → ¬ IsUnconnected m.shape v
    pub plane : TrianglesTurnLeft (point_at m) m.shape
    pub apart : FacesAreApart m
    pub covers : 1 < face_count m.shape → HullIsCovered m
    pub single : PointsAreSingle m
    pub hull : GoesRoundHull m
    pub constrained : IsConstrainedDelaunay m
    pub visible : CirclesInSightAreEmpty m

  -- why the segment of the number i isn't made a chain of marked edges
  abbrev pub IsNotLaid : Mesh Point DE Mark F → List (Option ℕ) → Segment → ℕ → SegmentError → Type 0
  IsNotLaid m vertices s i (NoVertex k) = (k ≡ i) × ((v w : ℕ) → HasEnds vertices s v w → ¬ HasVertices m.shape v w)
  IsNotLaid m vertices s i (OneVertex k) = (k ≡ i) × ((v : ℕ) × HasEnds vertices s v v)
  IsNotLaid m vertices s i (Crosses k) = (k ≡ i) × ((v : ℕ) × (w : ℕ) × (u : ℕ) × HasEnds vertices s v w × Blocks m v w u)
  IsNotLaid m vertices s i OutOfMemory = Unit {0}

-- a segment is refused: an end of it has no vertex, or both have one, or it crosses an earlier one
abbrev pub FailsToConstrain : {DE UE F : Type 0} → Mesh Point DE UE F → List (Option ℕ) → List Segment → SegmentError → Type 0
FailsToConstrain m vertices segments (NoVertex i) =
    (s : Segment) × (slice_get segments i ≡ Some s) × ((v w : ℕ) → HasEnds vertices s v w → ¬ HasVertices m.shape v w)
FailsToConstrain m vertices segments (OneVertex i) = (s : Segment) × (slice_get segments i ≡ Some s) × ((v : ℕ) × HasEnds vertices s v v)
FailsToConstrain m vertices segments (Crosses i) =
    (j : ℕ) × (s : Segment) × (t : Segment) × (j < i) × (slice_get segments j ≡ Some s) × (slice_get segments i ≡ Some t)
    × ((x : ℕ) × (y : ℕ) × (v : ℕ) × (w : ℕ) × HasEnds vertices s x y × HasEnds vertices t v w × DoCross (point_at m v) (point_at m w) (point_at m x) (point_at m y))
FailsToConstrain m vertices segments OutOfMemory = Unit {0}

-- what is told of a segment that isn't added
abbrev pub IsReasonFor : {A : Type 0} → ℕ → ConstraintError A → SegmentError → Type 0
IsReasonFor i told.NoVertex e = e ≡ NoVertex i
IsReasonFor i (told.Blocked edges) e = e ≡ Crosses i
IsReasonFor i told.OutOfMemory e = e ≡ OutOfMemory
