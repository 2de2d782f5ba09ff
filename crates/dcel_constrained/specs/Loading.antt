-- Points and segments between them, told by the numbers of the points.
use Rattle.std.specs.Prelude.{◌≡◌, ◌⊎◌, ℕ, ◌<◌, List, [], All, Contains, length, slice_get, slice_index, Some, pos, ◌<ℤ◌}
use Rattle.dcel_predicates.specs.declared.point.Point.{Point}
use Rattle.dcel_predicates.specs.Determinants.{orient2d_of}
use Rattle.dcel_maps.specs.Conditions.{HasRoom}
use Rattle.dcel_maps.specs.Shapes.{IsMesh, Mesh}
use Rattle.dcel_delaunay.specs.Triangles.{point_numbered}
use Rattle.dcel_delaunay.specs.Triangulated.{PointsAreSingle}
use Rattle.dcel_planar.specs.declared.errors.InsertionError.{InsertionError}
use Rattle.dcel_planar.specs.declared.errors.InsertionError.TheVariants as inserting
use Rattle.dcel_regions.specs.Marked.{IsMarked}
use Rattle.dcel_regions.specs.declared.mark.Mark.{Mark}
use Rattle.dcel_constrained.specs.Blocking.{Blocks}
use Rattle.dcel_constrained.specs.Constraints.{HasConstraint, IsPartOf}
use Rattle.dcel_constrained.specs.Soundness.{IsConstrained}
use Rattle.dcel_constrained.specs.declared.errors.ConstraintError.{ConstraintError}
use Rattle.dcel_constrained.specs.declared.errors.ConstraintError.TheVariants as told
use Rattle.dcel_constrained.specs.declared.errors.LoadError.{LoadError}
use Rattle.dcel_constrained.specs.declared.errors.LoadError.TheVariants.{Crosses, NoPoint, OutOfMemory, TooManyPoints}
use Rattle.dcel_constrained.specs.declared.load.Segment.{Segment}

-- both ends are numbers below `count`
pub record EndsBelow (count : ℕ) (s : Segment) : Type 0 where
  pub from : s.from < count
  pub to : s.to < count

-- c and d lie on different sides of the line from a to b, and on neither's
abbrev pub AreOnBothSides : (a b c d : Point) → Type 0
AreOnBothSides a b c d =
    ((orient2d_of a b c <ℤ pos 0) × (pos 0 <ℤ orient2d_of a b d)) ⊎ ((pos 0 <ℤ orient2d_of a b c) × (orient2d_of a b d <ℤ pos 0))

-- the segments from a to b and from c to d cross in a point that is an end of neither
pub record DoCross (a b c d : Point) : Type 0 where
  pub first : AreOnBothSides a b c d
  pub second : AreOnBothSides c d a b

module _ {DE F : Type 0} where
  -- each of the first `count` segments is one of marked edges
  abbrev pub AreLaid : Mesh Point DE Mark F → List ℕ → List Segment → ℕ → Type 0
  AreLaid m vertices segments count = (i : ℕ) (s : Segment) → i < count → slice_get segments i ≡ Some s
      → EndsBelow (length vertices) s × HasConstraint m (slice_index vertices s.from) (slice_index vertices s.to)

  -- each marked edge is a part of one of the first `count` segments
  abbrev pub ArePartsOf : Mesh Point DE Mark F → List ℕ → List Segment → ℕ → Type 0
  ArePartsOf m vertices segments count = (u : ℕ) → IsMarked m u
      → (i : ℕ) × (s : Segment) × (i < count) × (slice_get segments i ≡ Some s) × IsPartOf m (slice_index vertices s.from) (slice_index vertices s.to) u

  -- the segment of the number i isn't added: an end has no vertex, or a marked edge is in its way
  abbrev pub FailsToLay : Mesh Point DE Mark F → List ℕ → List Segment → ℕ → LoadError → Type 0
  FailsToLay m vertices segments i (NoPoint k) = (k ≡ i) × ((s : Segment) × (slice_get segments i ≡ Some s) × ¬ EndsBelow (length vertices) s)
  FailsToLay m vertices segments i (Crosses k) =
      (k ≡ i) × ((s : Segment) × (slice_get segments i ≡ Some s) × EndsBelow (length vertices) s
      × ((u : ℕ) × Blocks m (slice_index vertices s.from) (slice_index vertices s.to) u))
  FailsToLay m vertices segments i TooManyPoints = ⊥
  FailsToLay m vertices segments i OutOfMemory = Unit {0}

-- why a segment isn't one of marked edges, told with its number
abbrev pub IsReasonFor : {A : Type 0} → ℕ → ConstraintError A → LoadError → Type 0
IsReasonFor i told.NoVertex e = e ≡ NoPoint i
IsReasonFor i (told.Blocked edges) e = e ≡ Crosses i
IsReasonFor i told.OutOfMemory e = e ≡ OutOfMemory

-- why the points aren't all inserted, told of the load
abbrev pub IsInsertionFailure : InsertionError → LoadError → Type 0
IsInsertionFailure inserting.TooManyPoints e = e ≡ TooManyPoints
IsInsertionFailure inserting.OutOfRange e = e ≡ OutOfMemory
IsInsertionFailure inserting.OutOfMemory e = e ≡ OutOfMemory
IsInsertionFailure inserting.Unfinished e = e ≡ OutOfMemory

-- a constrained triangulation of some of the points, which has no numbers left for another vertex, three edges and two faces
pub record IsFull (points : List Point) (m : Mesh Point (Unit {0}) Mark (Unit {0})) : Type 0 where
  pub mesh : IsMesh m
  pub constrained : IsConstrained m []
  pub single : PointsAreSingle m
  pub from : All (Contains points) m.vertex_data
  pub full : ¬ HasRoom m.shape 1 3 2

-- why points and segments are not loaded
abbrev pub FailsToLoad : List Point → List Segment → LoadError → Type 0
FailsToLoad points segments (NoPoint i) = (s : Segment) × (slice_get segments i ≡ Some s) × ¬ EndsBelow (length points) s
FailsToLoad points segments (Crosses i) =
    (j : ℕ) × (s : Segment) × (t : Segment) × (j < i) × (slice_get segments j ≡ Some s) × (slice_get segments i ≡ Some t)
    × EndsBelow (length points) s × EndsBelow (length points) t
    × DoCross (point_numbered points t.from) (point_numbered points t.to) (point_numbered points s.from) (point_numbered points s.to)
FailsToLoad points segments TooManyPoints = (m : Mesh Point (Unit {0}) Mark (Unit {0})) × IsFull points m
FailsToLoad points segments OutOfMemory = Unit {0}
