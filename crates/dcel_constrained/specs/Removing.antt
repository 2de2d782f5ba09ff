-- Constraints over a removal: those that end at the vertex go with it, and all others stay.
use Rattle.std.specs.Prelude.{◌≡◌, ◌≢◌, ◌↔◌, ℕ, ◌-◌, ◌/◌}
use Rattle.dcel_predicates.specs.declared.point.Point.{Point}
use Rattle.dcel_maps.specs.Borders.{IsEdgeAt}
use Rattle.dcel_maps.specs.Renumbering.{moved}
use Rattle.dcel_maps.specs.Shapes.{Mesh}
use Rattle.dcel_maps.specs.Walking.{IsOutEdge}
use Rattle.dcel_delaunay.specs.declared.errors.RemovalError.{RemovalError}
use Rattle.dcel_delaunay.specs.declared.errors.RemovalError.TheVariants.{NoVertex, OutOfMemory, TooManyPoints, Unfinished}
use Rattle.dcel_regions.specs.Marked.{IsMarked}
use Rattle.dcel_regions.specs.declared.mark.Mark.{Mark}
use Rattle.dcel_constrained.specs.Soundness.{AreConstrained}
use Rattle.dcel_constrained.specs.Splitting.{StaysMarked}

module _ {DE F : Type 0} where
  -- the edge u of the vertex v is marked
  pub record IsMarkedAt (m : Mesh Point DE Mark F) (v u : ℕ) : Type 0 where
    pub at : IsEdgeAt m.shape v u
    pub marked : IsMarked m u

  -- no marked edge ends at the vertex v
  abbrev pub HasNoConstraintAt : Mesh Point DE Mark F → ℕ → Type 0
  HasNoConstraintAt m v = (h : ℕ) → IsOutEdge m.shape v h → ¬ IsMarked m (h / 2)

  -- marked edges of the vertex v may be freed, and nothing else changes
  pub record FreesEdgesOf (old new : Mesh Point DE Mark F) (v : ℕ) : Type 0 where
    pub shape : new.shape ≡ old.shape
    pub points : new.vertex_data ≡ old.vertex_data
    pub only : (u : ℕ) → IsMarked new u → IsMarked old u
    pub others : (u : ℕ) → IsMarked old u → ¬ IsEdgeAt old.shape v u → IsMarked new u

  -- marked edges lead between the vertices other than v as before, and there are no others than before
  pub record KeepsOtherConstraints (old new : Mesh Point DE Mark F) (v : ℕ) : Type 0 where
    pub others : (a b : ℕ) → a ≢ v → b ≢ v → AreConstrained old a b → AreConstrained new a b
    pub only : (a b : ℕ) → AreConstrained new a b → AreConstrained old a b

  -- once v is gone and the last vertex has its number, marked edges lead between the vertices that are left just where they did before
  abbrev pub LosesConstraintsOf : Mesh Point DE Mark F → Mesh Point DE Mark F → ℕ → Type 0
  LosesConstraintsOf old new v =
      (a b : ℕ) → a ≢ v → b ≢ v
      → AreConstrained old a b ↔ AreConstrained new (moved (old.shape.vertices - 1) v a) (moved (old.shape.vertices - 1) v b)

  -- what a removal of v that fails leaves of the constraints
  abbrev pub LeavesConstraints : Mesh Point DE Mark F → Mesh Point DE Mark F → ℕ → RemovalError → Type 0
  LeavesConstraints old new v NoVertex = StaysMarked old new
  LeavesConstraints old new v TooManyPoints = StaysMarked old new
  LeavesConstraints old new v OutOfMemory = KeepsOtherConstraints old new v
  LeavesConstraints old new v (Unfinished removed) = LosesConstraintsOf old new v
