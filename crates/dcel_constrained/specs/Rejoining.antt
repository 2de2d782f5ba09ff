-- A vertex removed from a constraint that goes straight through it, and its other ends joined.
use Rattle.std.specs.Prelude.{◌≡◌, ◌≢◌, ◌⊎◌, ℕ, ◌-◌, ◌/◌}
use Rattle.dcel_predicates.specs.declared.point.Point.{Point}
use Rattle.dcel_maps.specs.Renumbering.{moved}
use Rattle.dcel_maps.specs.Shapes.{Mesh, end_of}
use Rattle.dcel_plane.specs.Plane.{point_at}
use Rattle.dcel_planar.specs.declared.planar.PlanarMesh.{PlanarMesh}
use Rattle.dcel_delaunay.specs.Removing.{FailsToRemove, Loses}
use Rattle.dcel_delaunay.specs.declared.errors.RemovalError.{RemovalError}
use Rattle.dcel_delaunay.specs.declared.errors.RemovalError.TheVariants.{NoVertex, OutOfMemory, TooManyPoints, Unfinished}
use Rattle.dcel_regions.specs.Marked.{IsMarked}
use Rattle.dcel_regions.specs.declared.mark.Mark.{Mark}
use Rattle.dcel_constrained.specs.Constraints.{HasConstraint, LiesOnSegment}
use Rattle.dcel_constrained.specs.Meeting.{LiesBetweenEnds}
use Rattle.dcel_constrained.specs.Removing.{LeavesConstraints, LosesConstraintsOf}
use Rattle.dcel_constrained.specs.Soundness.{AreConstrained, CanAdd}
use Rattle.dcel_constrained.specs.declared.errors.JoinError.{JoinError}
use Rattle.dcel_constrained.specs.declared.errors.JoinError.TheVariants.{NotJoined, Removal}

-- what is told where a removal failed before a segment from a to b was joined
abbrev pub error_after : RemovalError → ℕ → ℕ → JoinError
error_after NoVertex a b = Removal NoVertex
error_after TooManyPoints a b = Removal TooManyPoints
error_after OutOfMemory a b = Removal OutOfMemory
error_after (Unfinished removed) a b = NotJoined (record { removed = removed; from = a; to = b })

module _ {DE F : Type 0} where
  -- the half edge h is marked, and ends neither at x nor at y
  abbrev pub LeadsPast : Mesh Point DE Mark F → ℕ → ℕ → ℕ → Type 0
  LeadsPast m x y h = (end_of m.shape h ≢ x) × (end_of m.shape h ≢ y) × IsMarked m (h / 2)

  -- exactly two marked edges end at the vertex v, which lies between their other ends a and b
  pub record IsStraightAt (m : Mesh Point DE Mark F) (v a b : ℕ) : Type 0 where
    pub first : AreConstrained m v a
    pub second : AreConstrained m v b
    pub only : (w : ℕ) → AreConstrained m v w → (w ≡ a) ⊎ (w ≡ b)
    pub between : LiesBetweenEnds (point_at m) a b v

  -- the number of the vertex k, once v is gone and the last one has its number
  abbrev pub number_without : Mesh Point DE Mark F → ℕ → ℕ → ℕ
  number_without m v k = moved (m.shape.vertices - 1) v k

  -- then marked edges lead between the vertices that are left as before, and others only along the segment from a to b
  pub record KeepsAllButParts (old new : Mesh Point DE Mark F) (v a b : ℕ) : Type 0 where
    pub others : (p q : ℕ) → p ≢ v → q ≢ v → AreConstrained old p q → AreConstrained new (number_without old v p) (number_without old v q)
    pub only : (p q : ℕ) → p ≢ v → q ≢ v → AreConstrained new (number_without old v p) (number_without old v q)
        → AreConstrained old p q
        ⊎ (LiesOnSegment (point_at new) (number_without old v a) (number_without old v b) (number_without old v p)
        × LiesOnSegment (point_at new) (number_without old v a) (number_without old v b) (number_without old v q))

  -- and that segment is one of marked edges
  pub record IsRejoined (old new : Mesh Point DE Mark F) (v a b : ℕ) : Type 0 where
    pub straight : IsStraightAt old v a b
    pub joined : HasConstraint new (number_without old v a) (number_without old v b)
    pub keeps : KeepsAllButParts old new v a b

  -- the constraint through v is joined, if there is one
  abbrev pub RejoinsConstraintsOf : Mesh Point DE Mark F → Mesh Point DE Mark F → ℕ → Type 0
  RejoinsConstraintsOf old new v =
      (((a b : ℕ) → ¬ IsStraightAt old v a b) × LosesConstraintsOf old new v) ⊎ ((a : ℕ) × (b : ℕ) × IsRejoined old new v a b)

  -- the segment between its ends can be added, and maybe parts of it are
  pub record IsUnjoined (old new : Mesh Point DE Mark F) (v from to : ℕ) : Type 0 where
    pub a : ℕ
    pub b : ℕ
    pub straight : IsStraightAt old v a b
    pub from_is : from ≡ number_without old v a
    pub to_is : to ≡ number_without old v b
    pub can : CanAdd new from to
    pub keeps : KeepsAllButParts old new v a b

  -- v is gone only where no constraint goes through it
  abbrev pub LeavesNone : Mesh Point DE Mark F → ℕ → RemovalError → Type 0
  LeavesNone old v NoVertex = Unit {0}
  LeavesNone old v TooManyPoints = Unit {0}
  LeavesNone old v OutOfMemory = Unit {0}
  LeavesNone old v (Unfinished removed) = (a b : ℕ) → ¬ IsStraightAt old v a b

module _ {A : Type 0} where
  -- a removal of the vertex v fails, or the constraint through it isn't joined
  abbrev pub FailsToRejoin : PlanarMesh Mark A → PlanarMesh Mark A → ℕ → JoinError → Type 0
  FailsToRejoin old new v (Removal error) = FailsToRemove old new v error × LeavesConstraints old.dcel new.dcel v error × LeavesNone old.dcel v error
  FailsToRejoin old new v (NotJoined left) = Loses old.dcel new.dcel v left.removed × IsUnjoined old.dcel new.dcel v left.from left.to
