-- A vertex inserted into a triangle and removed again: what is left is the mesh before, without the vertex.
use Rattle.std.specs.Prelude.{◌≡◌, ℕ, suc, ◌-◌, List, [], ◌∷◌, length, slice_set, take}
use Rattle.dcel_maps.specs.Conditions.{HasRoom, IsTriangle, IsUnconnected}
use Rattle.dcel_maps.specs.Removals.{Closed}
use Rattle.dcel_maps.specs.Renumbering.{cleaned_up, vertex_taken_out}
use Rattle.dcel_maps.specs.Shapes.{Mesh}
use Rattle.dcel_maps.specs.edits.DefaultData.{NewData}
use Rattle.dcel_maps.specs.edits.Fill.{hole_filled}
use Rattle.dcel_maps.specs.edits.Triangle.{vertex_inserted}

module _ {V DE UE F : Type 0} where
  -- v is the last vertex, and can be inserted into f while no removal is open
  pub record CanInsertLast (m : Mesh V DE UE F) (v f : ℕ) : Type 0 where
    pub closed : m.shape.removal ≡ Closed
    pub last : suc v ≡ m.shape.vertices
    pub unconnected : IsUnconnected m.shape v
    pub triangle : IsTriangle m.shape f
    pub room : HasRoom m.shape 0 3 2

  -- `insert_into_triangle`
  abbrev pub inserted_with : (m : Mesh V DE UE F) (v f : ℕ) → NewData DE UE F 3 2 → Mesh V DE UE F
  inserted_with m v f new = vertex_inserted m v f new.directed_data new.undirected_data new.face_data

  -- `isolate_vertex_and_fill_hole`, `cleanup_isolated_vertex` and `swap_remove_vertex`
  abbrev pub removed_with : (m : Mesh V DE UE F) (v : ℕ) (border : List ℕ) → NewData DE UE F (length border - 3) (length border - 2) → Mesh V DE UE F
  removed_with m v border new = vertex_taken_out (cleaned_up (hole_filled m v border new.directed_data new.undirected_data new.face_data)) v

  -- t is m without its last vertex, where f has the one datum of this list; only anchors may be others
  pub record IsBackWithoutLast (m : Mesh V DE UE F) (f : ℕ) (new_faces : List F) (t : Mesh V DE UE F) : Type 0 where
    pub shape : t.shape ≡ record m.shape { vertices = m.shape.vertices - 1 }
    pub vertex_data : t.vertex_data ≡ take (m.shape.vertices - 1) m.vertex_data
    pub directed_data : t.directed_data ≡ m.directed_data
    pub undirected_data : t.undirected_data ≡ m.undirected_data
    pub datum : F
    pub one_new : new_faces ≡ datum ∷ []
    pub face_data : t.face_data ≡ slice_set m.face_data f datum
