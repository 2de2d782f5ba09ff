-- Marked edges in the way of a segment.
use Rattle.std.specs.Prelude.{◌≡◌, ◌≢◌, ◌⊎◌, ◌++◌, ℕ, ◌<◌, ◌/◌, List, [], ◌∷◌}
use Rattle.dcel_predicates.specs.declared.point.Point.{Point}
use Rattle.dcel_maps.specs.Shapes.{Mesh}
use Rattle.dcel_maps.specs.Words.{count_of}
use Rattle.dcel_plane.specs.Plane.{point_at}
use Rattle.dcel_plane.specs.segments.Segments.{Crosses}
use Rattle.dcel_planar.specs.Outcomes.{IsWholeMesh, KeepsWhole}
use Rattle.dcel_planar.specs.declared.planar.PlanarMesh.{PlanarMesh}
use Rattle.dcel_regions.specs.Marked.{IsMarked}
use Rattle.dcel_regions.specs.declared.mark.Mark.{Mark}
use Rattle.dcel_constrained.specs.Channels.{HasVertices}
use Rattle.dcel_constrained.specs.Soundness.{CanAdd, MarksAnother}
use Rattle.dcel_constrained.specs.declared.errors.ConstraintError.{ConstraintError}
use Rattle.dcel_constrained.specs.declared.errors.ConstraintError.TheVariants.{Blocked, NoVertex, OutOfMemory}

module _ {DE F : Type 0} where
  -- the edge u is marked, and a half of it crosses the segment from v to w
  pub record Blocks (m : Mesh Point DE Mark F) (v w u : ℕ) : Type 0 where
    pub marked : IsMarked m u
    pub half : ℕ
    pub edge : half / 2 ≡ u
    pub crosses : Crosses (point_at m) m.shape v w half

  -- each edge in the way stands in the list once, and no other does
  pub record ListsBlocking (m : Mesh Point DE Mark F) (v w : ℕ) (list : List ℕ) : Type 0 where
    pub once : (u : ℕ) → Blocks m v w u → count_of u list ≡ 1
    pub no_other : (u : ℕ) → 0 < count_of u list → Blocks m v w u

  -- the edge u is noted, if it is in the way
  abbrev pub NotesBlocking : Mesh Point DE Mark F → ℕ → ℕ → ℕ → List ℕ → List ℕ → Type 0
  NotesBlocking m v w u before after = (Blocks m v w u × (after ≡ before ++ u ∷ [])) ⊎ ((¬ Blocks m v w u) × (after ≡ before))

module _ {A : Type 0} where
  -- the mesh is whole, the vertices keep their points, and no other edge is marked than before; a mesh that was whole is as it was
  pub record FinishesOnly (old new : PlanarMesh Mark A) : Type 0 where
    pub keeps : KeepsWhole old new
    pub no_other : ¬ MarksAnother old.dcel new.dcel
    pub whole : IsWholeMesh new

  -- a segment is not made one of marked edges; parts of it may be marked only if it can be added
  abbrev pub FailsToAdd : PlanarMesh Mark A → PlanarMesh Mark A → ℕ → ℕ → ConstraintError A → Type 0
  FailsToAdd old new v w NoVertex = (¬ HasVertices new.dcel.shape v w) × FinishesOnly old new
  FailsToAdd old new v w (Blocked edges) =
      HasVertices new.dcel.shape v w × (edges.items ≢ []) × ListsBlocking new.dcel v w edges.items × FinishesOnly old new
  FailsToAdd old new v w OutOfMemory = MarksAnother old.dcel new.dcel → CanAdd new.dcel v w
