-- What a segment between two vertices meets on its way.
use Rattle.std.specs.Prelude.{◌≡◌, ◌⊎◌, ℕ, ◌<◌, List, pos, ◌<ℤ◌}
use Rattle.dcel_fixed.specs.HalfEdges.{rev}
use Rattle.dcel_predicates.specs.declared.point.Point.{Point}
use Rattle.dcel_maps.specs.Shapes.{Mesh, Shape, end_of, next_of, prev_of}
use Rattle.dcel_plane.specs.segments.Segments.{BeginsAt, Crosses, HasSidesOf, IsChannel, LeadsAlong, TurnsInto, corner_beyond, orient2d_by}
use Rattle.dcel_maps.specs.Walking.{Leads}
use Rattle.dcel_maps.specs.Words.{count_of}
use Rattle.dcel_plane.specs.covering.Covering.{dot}
use Rattle.dcel_plane.specs.Plane.{point_at}
use Rattle.dcel_constrained.specs.declared.segments.join.Joined.{Joined}
use Rattle.dcel_constrained.specs.declared.segments.join.Joined.TheVariants.{Between, Edge}
use Rattle.dcel_constrained.specs.declared.segments.walk.Met.{Met}
use Rattle.dcel_constrained.specs.declared.segments.walk.Met.TheVariants.{Side, Vertex}

-- first it is a half edge across the triangle where it begins, or the end of an edge that leads along it
abbrev pub IsFirstMet : (ℕ → Point) → Shape → ℕ → ℕ → Met → Type 0
IsFirstMet at s v w (Side h) = BeginsAt at s v w h
IsFirstMet at s v w (Vertex y) = (k : ℕ) × LeadsAlong at s v w k × (end_of s k ≡ y)

-- beyond the half edge h it is another side of the triangle there, by the side on which its corner lies, or the corner
abbrev pub IsMetAfter : (ℕ → Point) → Shape → ℕ → ℕ → ℕ → Met → Type 0
IsMetAfter at s v w h (Side k) =
    ((pos 0 <ℤ orient2d_by at v w (corner_beyond s h)) × (k ≡ next_of s (rev h))) ⊎ ((orient2d_by at v w (corner_beyond s h) <ℤ pos 0) × (k ≡ prev_of s (rev h)))
IsMetAfter at s v w h (Vertex y) = (orient2d_by at v w (corner_beyond s h) ≡ pos 0) × (y ≡ corner_beyond s h)

-- the vertex y lies on the segment, between its ends
pub record LiesBetweenEnds (at : ℕ → Point) (v w y : ℕ) : Type 0 where
  pub on : orient2d_by at v w y ≡ pos 0
  pub inside : dot (at v) (at w) (at y) <ℤ pos 0

-- what is listed before is listed still
abbrev pub ListsStill : List ℕ → List ℕ → Type 0
ListsStill before after = (u : ℕ) → 0 < count_of u before → 0 < count_of u after

-- the segment has crossed the half edges of the list and come to the vertex y, and all edges around the faces are listed
pub record HasCome (at : ℕ → Point) (s : Shape) (v w : ℕ) (list due : List ℕ) (y : ℕ) : Type 0 where
  pub vertex : y < s.vertices
  pub sides : HasSidesOf due s list
  pub there : ((y ≡ w) × IsChannel at s v w list) ⊎ LiesBetweenEnds at v w y

-- there is an edge, made by flips of edges that the segment crossed; or a vertex lies on the segment, and nothing has changed
abbrev pub IsJoinedAs : {DE UE F : Type 0} → Mesh Point DE UE F → Mesh Point DE UE F → ℕ → ℕ → Joined → Type 0
IsJoinedAs old new v w Edge =
    ((h : ℕ) × Leads new.shape v w h)
    × ((list : List ℕ) × TurnsInto (point_at old) old new list × ((k : ℕ) → 0 < count_of k list → Crosses (point_at old) old.shape v w k))
IsJoinedAs old new v w (Between y) = (new ≡ old) × (y < old.shape.vertices) × LiesBetweenEnds (point_at old) v w y
