-- Whole constrained triangulations.
use Rattle.dcel_constrained.specs.Constrained.{marked_mesh}
use Rattle.dcel_constrained.specs.Soundness.{HasNoConstraint, constraint_count}
use Rattle.dcel_constrained.specs.Splitting.{StaysMarked}
use Rattle.dcel_delaunay.specs.Triangulated.{mesh_in}
use Rattle.dcel_maps.specs.Shapes.{face_count}
use Rattle.dcel_planar.specs.Leaving.{IsSame}
use Rattle.dcel_triangulations.specs.Held.{State as Delaunay}
use Rattle.dcel_triangulations.specs.constrained.Calls.{IsWhole}
use Rattle.dcel_triangulations.specs.constrained.Held.{Kept, State}
use Rattle.std.specs.Prelude.{◌≡◌, ◌-◌, ℕ, [], Some, None}

pub record HasNoPoints (t : State) : Type 0 where
  pub empty : (marked_mesh t).vertex_data ≡ []
  pub free : HasNoConstraint (marked_mesh t)
  pub whole : IsWhole t

-- the copy has the same mesh with the same marks, and the same is left undone in it
abbrev pub IsCopy : State → State → Type 0
IsCopy t copy = IsSame t.planar copy.planar

-- it has the vertices, edges and triangles of a Delaunay triangulation, and no constraint
pub record IsMadeOf (from : Delaunay) (t : State) : Type 0 where
  pub points : (marked_mesh t).vertex_data ≡ (mesh_in from).vertex_data
  pub shape : (marked_mesh t).shape ≡ (mesh_in from).shape
  pub free : HasNoConstraint (marked_mesh t)
  pub whole : IsWhole t

-- how many vertices there are, how many edges, triangles and constraints
abbrev pub vertices_in : Kept → ℕ
vertices_in None = 0
vertices_in (Some t) = (marked_mesh t).shape.vertices

abbrev pub edges_in : Kept → ℕ
edges_in None = 0
edges_in (Some t) = (marked_mesh t).shape.edges

abbrev pub triangles_in : Kept → ℕ
triangles_in None = 0
triangles_in (Some t) = face_count (marked_mesh t).shape - 1

abbrev pub constraints_in : Kept → ℕ
constraints_in None = 0
constraints_in (Some t) = constraint_count (marked_mesh t)

-- all is done that was left undone; the vertices keep their points, and the constraints stay
pub record Finishes (old new : State) : Type 0 where
  pub stays : StaysMarked (marked_mesh old) (marked_mesh new)
  pub whole : IsWhole new
  pub same : IsWhole old → marked_mesh new ≡ marked_mesh old

-- something is still undone
pub record StaysUnfinished (old new : State) : Type 0 where
  pub stays : StaysMarked (marked_mesh old) (marked_mesh new)
  pub before : ¬ IsWhole old
  pub after : ¬ IsWhole new
