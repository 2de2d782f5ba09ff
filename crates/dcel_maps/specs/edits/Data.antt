-- One datum replaced: what `update_vertex` does, and what the last value behind a lent datum does. Whatever an edit doesn't name stays as it was.
use Rattle.std.specs.Prelude.{ℕ, slice_set}
use Rattle.dcel_maps.specs.Shapes.{Mesh}

module _ {V DE UE F : Type 0} (m : Mesh V DE UE F) (number : ℕ) where
  abbrev pub vertex_updated : V → Mesh V DE UE F
  vertex_updated datum = record m { vertex_data = slice_set m.vertex_data number datum }

  abbrev pub directed_edge_updated : DE → Mesh V DE UE F
  directed_edge_updated datum = record m { directed_data = slice_set m.directed_data number datum }

  abbrev pub undirected_edge_updated : UE → Mesh V DE UE F
  undirected_edge_updated datum = record m { undirected_data = slice_set m.undirected_data number datum }

  abbrev pub face_updated : F → Mesh V DE UE F
  face_updated datum = record m { face_data = slice_set m.face_data number datum }
