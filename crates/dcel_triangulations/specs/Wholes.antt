-- Whole triangulations.
use Rattle.dcel_delaunay.specs.Triangulated.{mesh_in}
use Rattle.dcel_maps.specs.Shapes.{face_count}
use Rattle.dcel_planar.specs.Leaving.{IsSame}
use Rattle.dcel_triangulations.specs.Calls.{IsWhole}
use Rattle.dcel_triangulations.specs.Held.{Kept, State}
use Rattle.std.specs.Prelude.{◌≡◌, ◌-◌, ℕ, [], Some, None}

pub record HasNoPoints (t : State) : Type 0 where
  pub empty : (mesh_in t).vertex_data ≡ []
  pub whole : IsWhole t

-- the copy has the same mesh, and the same is left undone in it
abbrev pub IsCopy : State → State → Type 0
IsCopy t copy = IsSame t.planar copy.planar

-- how many vertices there are, how many edges, and how many triangles
abbrev pub vertices_in : Kept → ℕ
vertices_in None = 0
vertices_in (Some t) = (mesh_in t).shape.vertices

abbrev pub edges_in : Kept → ℕ
edges_in None = 0
edges_in (Some t) = (mesh_in t).shape.edges

abbrev pub triangles_in : Kept → ℕ
triangles_in None = 0
triangles_in (Some t) = face_count (mesh_in t).shape - 1

-- all is done that was left undone, and the vertices keep their points
pub record Finishes (old new : State) : Type 0 where
  pub points : (mesh_in new).vertex_data ≡ (mesh_in old).vertex_data
  pub whole : IsWhole new
  pub same : IsWhole old → mesh_in new ≡ mesh_in old

-- something is still undone
pub record StaysUnfinished (old new : State) : Type 0 where
  pub points : (mesh_in new).vertex_data ≡ (mesh_in old).vertex_data
  pub before : ¬ IsWhole old
  pub after : ¬ IsWhole new
