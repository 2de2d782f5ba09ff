-- Triangles inside an outline: those that an odd number of its sides lie between and the outside, at least.
use Rattle.std.specs.Prelude.{◌≡◌, ◌≢◌, ◌↔◌, ℕ, ◌<◌, ◌≤◌, ◌+◌, ◌/◌, ◌%◌, ◌==◌, Bool, List, Option, length, map, slice_get, Some}
use Rattle.std.specs.List.{AllZip}
use Rattle.dcel_predicates.specs.declared.point.Point.{Point}
use Rattle.dcel_maps.specs.Shapes.{Mesh, face_count}
use Rattle.dcel_maps.specs.Words.{count_of, occurs}
use Rattle.dcel_plane.specs.Plane.{point_at}
use Rattle.dcel_plane.specs.segments.Segments.{LeadsAlong}
use Rattle.dcel_regions.specs.Marked.{IsMarked}
use Rattle.dcel_regions.specs.Regions.{IsReached}
use Rattle.dcel_regions.specs.declared.mark.Mark.{Mark}
use Rattle.dcel_constrained.specs.Channels.{HasVertices}
use Rattle.dcel_constrained.specs.Constraints.{LiesOnSegment}
use Rattle.dcel_constrained.specs.declared.load.Segment.{Segment}
use Rattle.dcel_output.specs.Constraining.{HasEnds, IsChain}
use Rattle.dcel_output.specs.declared.outlining.OutlineError.{OutlineError}
use Rattle.dcel_output.specs.declared.outlining.OutlineError.TheVariants.{NoChain, OutOfMemory}

abbrev pub is_odd : ℕ → Bool
is_odd n = n % 2 == 1

-- how often chains of half edges pass the edge u
abbrev pub passes : List (List ℕ) → ℕ → ℕ
passes chains u = occurs u (map (map (λ h. h / 2)) chains)

module _ {DE F : Type 0} where
  -- those edges are marked whose number is odd
  abbrev pub MarksOdd : Mesh Point DE Mark F → (ℕ → ℕ) → Type 0
  MarksOdd m times = (u : ℕ) → u < m.shape.edges → IsMarked m u ↔ (times u % 2 ≡ 1)

  -- k is the least number of marked edges that a way from outside to the face f crosses
  pub record IsDepth (m : Mesh Point DE Mark F) (f k : ℕ) : Type 0 where
    pub reached : IsReached m f k
    pub least : (n : ℕ) → IsReached m f n → k ≤ n

  -- the same mesh, in which those edges are marked that an odd number of sides lead along
  pub record IsParted (m : Mesh Point DE Mark F) (vertices : List (Option ℕ)) (sides : List Segment) (parted : Mesh Point DE Mark F) : Type 0 where
    pub chains : List (List ℕ)
    pub are : AllZip (IsChain m vertices) sides chains
    pub shape : parted.shape ≡ m.shape
    pub marks : MarksOdd parted (passes chains)

  -- the marked half edge h leads from v along the segment to w
  pub record LeadsMarked (m : Mesh Point DE Mark F) (v w h : ℕ) : Type 0 where
    pub along : LeadsAlong (point_at m) m.shape v w h
    pub marked : IsMarked m (h / 2)

  -- from some vertex on the segment from v to w no marked half edge leads on
  pub record BreaksOff (m : Mesh Point DE Mark F) (v w : ℕ) : Type 0 where
    pub vertex : ℕ
    pub on : LiesOnSegment (point_at m) v w vertex
    pub before : vertex ≢ w
    pub none : (h : ℕ) → ¬ LeadsMarked m vertex w h

  abbrev pub IsNoChain : Mesh Point DE Mark F → List (Option ℕ) → Segment → Type 0
  IsNoChain m vertices s = (v w : ℕ) → HasEnds vertices s v w → HasVertices m.shape v w → BreaksOff m v w

  -- the marks of the edges of these half edges are turned over, one after another
  abbrev pub TurnsEach : Mesh Point DE Mark F → Mesh Point DE Mark F → List ℕ → Type 0
  TurnsEach old new halves = (times : ℕ → ℕ) → MarksOdd old times → MarksOdd new (λ u. times u + count_of u (map (λ h. h / 2) halves))

  -- the flag of each inner face says whether its depth is odd
  abbrev pub HaveOddDepth : Mesh Point DE Mark F → List Bool → Type 0
  HaveOddDepth m flags = (i : ℕ) (flag : Bool) → slice_get flags i ≡ Some flag → (depth : ℕ) × IsDepth m (i + 1) depth × (flag ≡ is_odd depth)

  -- of each inner face, whether it is inside: whether its depth is odd
  pub record ListsInside (m : Mesh Point DE Mark F) (vertices : List (Option ℕ)) (sides : List Segment) (flags : List Bool) : Type 0 where
    pub parted : Mesh Point DE Mark F
    pub is : IsParted m vertices sides parted
    pub many : length flags + 1 ≡ face_count m.shape
    pub each : HaveOddDepth parted flags

  -- why it isn't told: a side is no chain of marked edges
  abbrev pub FailsToPart : Mesh Point DE Mark F → List (Option ℕ) → List Segment → OutlineError → Type 0
  FailsToPart m vertices sides (NoChain i) = (s : Segment) × (slice_get sides i ≡ Some s) × IsNoChain m vertices s
  FailsToPart m vertices sides OutOfMemory = Unit {0}
